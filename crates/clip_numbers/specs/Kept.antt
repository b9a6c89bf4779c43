-- 02, j: calls one after the other are feeds one after the other: the list that a call leaves stands for the state that the definition gives.
-- Assumes nothing.
use Rattle.std.specs.Prelude.{◌≡◌, ℕ, List}
use Rattle.laws.specs.Table.{Bytes}
use Rattle.clip.specs.Step.{fresh_of}
use Rattle.clip.specs.Feed.{feed_of, finish_of}
use Rattle.clip_numbers.specs.Numbers.{state_numbers, clip_of}

-- Theorem: proofs/Kept.antt, `kept`.
pub record StateKept : Type 0 where
  pub started : clip_of (state_numbers fresh_of) ≡ fresh_of
  pub fed : (s p : List ℕ) → Bytes p → clip_of (state_numbers (feed_of (clip_of s) p).clip) ≡ (feed_of (clip_of s) p).clip
  pub finished : (s : List ℕ) → clip_of (state_numbers (finish_of (clip_of s)).clip) ≡ (finish_of (clip_of s)).clip
