use mathlib.Core.Path.{◌≡◌, refl, sym, ap, ◌∙◌}
use mathlib.Core.Bool.{Bool}
use Rattle.bits.specs.Block.{block_number}
use Rattle.interpolation.specs.Expansion.{takes_hdr}
use Rattle.block_reading.specs.Faults.{strict_fault}
use Rattle.strict_block.proofs.Laws.{error_into, same_fault, same_into, shows_as}
use Rattle.strict_block.proofs.decode_strict.Goals as goal
use Rattle.strict_block.proofs.decode_strict.Goals.{After-strict_fault-fault}

-- the fault by the kind's list
fault_is : (c : After-strict_fault-fault) → let a = c.args in c.strict_fault-fault.result ≡ strict_fault (takes_hdr a.kind) a.fp (block_number a.b)
fault_is c = let a = c.args in c.strict_fault-fault.ensures ∙ ap (λ (h : Bool). strict_fault h a.fp (block_number a.b)) c.takes_hdr.ensures

pub returns-then-fault-eq21 : goal.returns-then-fault-eq21
returns-then-fault-eq21 c =
    let t = c.before in
    let f = fault_is t.before in
    (sym f, refl, λ l. sym (error_into _ _ _ (sym f ∙ t.if-fault-eq21.true) _ c.error_texel-texel.ensures l _ refl))

pub returns : goal.returns
returns c =
    let t = c.before.before in
    let a = t.args in
    let n : strict_fault (takes_hdr a.kind) a.fp (block_number a.b) ≡ 21 → ⊥ = λ q. t.if-fault-eq21.false (fault_is t.before ∙ q) in
    shows_as c.decode_some.result _ _ _ (same_fault a.fp a.kind (block_number a.b) n) (λ l. same_into a.fp a.kind (block_number a.b) n l _ refl) c.decode_some.ensures
