use mathlib.Core.Path.{◌≡◌, refl}
use native.Mathlib.Omega.{arith}
use lib.Dec.{eqb, eqb→eq}
use Rattle.quantization.proofs.Arms.{rest}
use Rattle.integer_sequence.specs.inner.Entries.{four_entries}
use Rattle.integer_sequence.proofs.CodeTables.{below}
use Rattle.integer_sequence.proofs.tables.trit_word.Goals as goal

pub returns-in_default : goal.returns-in_default
unfolding four_entries
returns-in_default c =
    let i = c.args.i in
    let q : i ≡ 63 = eqb→eq i 63 (rest (λ j. eqb j 63) (below 63) 64 tt i (omega arith) c.in_default.in_default-own.rest) in
    rw q refl

pub returns-in-0 : goal.returns-in-0
unfolding four_entries
returns-in-0 c = rw c.in-0.is refl

pub returns-in-1 : goal.returns-in-1
unfolding four_entries
returns-in-1 c = rw c.in-1.is refl

pub returns-in-2 : goal.returns-in-2
unfolding four_entries
returns-in-2 c = rw c.in-2.is refl

pub returns-in-3 : goal.returns-in-3
unfolding four_entries
returns-in-3 c = rw c.in-3.is refl

pub returns-in-4 : goal.returns-in-4
unfolding four_entries
returns-in-4 c = rw c.in-4.is refl

pub returns-in-5 : goal.returns-in-5
unfolding four_entries
returns-in-5 c = rw c.in-5.is refl

pub returns-in-6 : goal.returns-in-6
unfolding four_entries
returns-in-6 c = rw c.in-6.is refl

pub returns-in-7 : goal.returns-in-7
unfolding four_entries
returns-in-7 c = rw c.in-7.is refl

pub returns-in-8 : goal.returns-in-8
unfolding four_entries
returns-in-8 c = rw c.in-8.is refl

pub returns-in-9 : goal.returns-in-9
unfolding four_entries
returns-in-9 c = rw c.in-9.is refl

pub returns-in-10 : goal.returns-in-10
unfolding four_entries
returns-in-10 c = rw c.in-10.is refl

pub returns-in-11 : goal.returns-in-11
unfolding four_entries
returns-in-11 c = rw c.in-11.is refl

pub returns-in-12 : goal.returns-in-12
unfolding four_entries
returns-in-12 c = rw c.in-12.is refl

pub returns-in-13 : goal.returns-in-13
unfolding four_entries
returns-in-13 c = rw c.in-13.is refl

pub returns-in-14 : goal.returns-in-14
unfolding four_entries
returns-in-14 c = rw c.in-14.is refl

pub returns-in-15 : goal.returns-in-15
unfolding four_entries
returns-in-15 c = rw c.in-15.is refl

pub returns-in-16 : goal.returns-in-16
unfolding four_entries
returns-in-16 c = rw c.in-16.is refl

pub returns-in-17 : goal.returns-in-17
unfolding four_entries
returns-in-17 c = rw c.in-17.is refl

pub returns-in-18 : goal.returns-in-18
unfolding four_entries
returns-in-18 c = rw c.in-18.is refl

pub returns-in-19 : goal.returns-in-19
unfolding four_entries
returns-in-19 c = rw c.in-19.is refl

pub returns-in-20 : goal.returns-in-20
unfolding four_entries
returns-in-20 c = rw c.in-20.is refl

pub returns-in-21 : goal.returns-in-21
unfolding four_entries
returns-in-21 c = rw c.in-21.is refl

pub returns-in-22 : goal.returns-in-22
unfolding four_entries
returns-in-22 c = rw c.in-22.is refl

pub returns-in-23 : goal.returns-in-23
unfolding four_entries
returns-in-23 c = rw c.in-23.is refl

pub returns-in-24 : goal.returns-in-24
unfolding four_entries
returns-in-24 c = rw c.in-24.is refl

pub returns-in-25 : goal.returns-in-25
unfolding four_entries
returns-in-25 c = rw c.in-25.is refl

pub returns-in-26 : goal.returns-in-26
unfolding four_entries
returns-in-26 c = rw c.in-26.is refl

pub returns-in-27 : goal.returns-in-27
unfolding four_entries
returns-in-27 c = rw c.in-27.is refl

pub returns-in-28 : goal.returns-in-28
unfolding four_entries
returns-in-28 c = rw c.in-28.is refl

pub returns-in-29 : goal.returns-in-29
unfolding four_entries
returns-in-29 c = rw c.in-29.is refl

pub returns-in-30 : goal.returns-in-30
unfolding four_entries
returns-in-30 c = rw c.in-30.is refl

pub returns-in-31 : goal.returns-in-31
unfolding four_entries
returns-in-31 c = rw c.in-31.is refl

pub returns-in-32 : goal.returns-in-32
unfolding four_entries
returns-in-32 c = rw c.in-32.is refl

pub returns-in-33 : goal.returns-in-33
unfolding four_entries
returns-in-33 c = rw c.in-33.is refl

pub returns-in-34 : goal.returns-in-34
unfolding four_entries
returns-in-34 c = rw c.in-34.is refl

pub returns-in-35 : goal.returns-in-35
unfolding four_entries
returns-in-35 c = rw c.in-35.is refl

pub returns-in-36 : goal.returns-in-36
unfolding four_entries
returns-in-36 c = rw c.in-36.is refl

pub returns-in-37 : goal.returns-in-37
unfolding four_entries
returns-in-37 c = rw c.in-37.is refl

pub returns-in-38 : goal.returns-in-38
unfolding four_entries
returns-in-38 c = rw c.in-38.is refl

pub returns-in-39 : goal.returns-in-39
unfolding four_entries
returns-in-39 c = rw c.in-39.is refl

pub returns-in-40 : goal.returns-in-40
unfolding four_entries
returns-in-40 c = rw c.in-40.is refl

pub returns-in-41 : goal.returns-in-41
unfolding four_entries
returns-in-41 c = rw c.in-41.is refl

pub returns-in-42 : goal.returns-in-42
unfolding four_entries
returns-in-42 c = rw c.in-42.is refl

pub returns-in-43 : goal.returns-in-43
unfolding four_entries
returns-in-43 c = rw c.in-43.is refl

pub returns-in-44 : goal.returns-in-44
unfolding four_entries
returns-in-44 c = rw c.in-44.is refl

pub returns-in-45 : goal.returns-in-45
unfolding four_entries
returns-in-45 c = rw c.in-45.is refl

pub returns-in-46 : goal.returns-in-46
unfolding four_entries
returns-in-46 c = rw c.in-46.is refl

pub returns-in-47 : goal.returns-in-47
unfolding four_entries
returns-in-47 c = rw c.in-47.is refl

pub returns-in-48 : goal.returns-in-48
unfolding four_entries
returns-in-48 c = rw c.in-48.is refl

pub returns-in-49 : goal.returns-in-49
unfolding four_entries
returns-in-49 c = rw c.in-49.is refl

pub returns-in-50 : goal.returns-in-50
unfolding four_entries
returns-in-50 c = rw c.in-50.is refl

pub returns-in-51 : goal.returns-in-51
unfolding four_entries
returns-in-51 c = rw c.in-51.is refl

pub returns-in-52 : goal.returns-in-52
unfolding four_entries
returns-in-52 c = rw c.in-52.is refl

pub returns-in-53 : goal.returns-in-53
unfolding four_entries
returns-in-53 c = rw c.in-53.is refl

pub returns-in-54 : goal.returns-in-54
unfolding four_entries
returns-in-54 c = rw c.in-54.is refl

pub returns-in-55 : goal.returns-in-55
unfolding four_entries
returns-in-55 c = rw c.in-55.is refl

pub returns-in-56 : goal.returns-in-56
unfolding four_entries
returns-in-56 c = rw c.in-56.is refl

pub returns-in-57 : goal.returns-in-57
unfolding four_entries
returns-in-57 c = rw c.in-57.is refl

pub returns-in-58 : goal.returns-in-58
unfolding four_entries
returns-in-58 c = rw c.in-58.is refl

pub returns-in-59 : goal.returns-in-59
unfolding four_entries
returns-in-59 c = rw c.in-59.is refl

pub returns-in-60 : goal.returns-in-60
unfolding four_entries
returns-in-60 c = rw c.in-60.is refl

pub returns-in-61 : goal.returns-in-61
unfolding four_entries
returns-in-61 c = rw c.in-61.is refl

pub returns-in-62 : goal.returns-in-62
unfolding four_entries
returns-in-62 c = rw c.in-62.is refl
