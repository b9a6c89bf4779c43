-- A buffer that a text is written into from its front.
-- Assumes nothing.
use Rattle.std.specs.Prelude.{◌≡◌, ℕ, List, ◌++◌, length}
use Rattle.line_text.specs.Lines.{text_over}

-- the buffer `old` with the text t in front, which ends at `at`
pub record Written (t old l : List ℕ) (at : ℕ) : Type 0 where
  pub holds : l ≡ text_over t old
  pub ends : at ≡ length t

-- what puts the text x into a buffer at `at`: behind any text that ends there
pub record Puts (l : List ℕ) (at : ℕ) (x : List ℕ) (m : List ℕ) (end : ℕ) : Type 0 where
  pub same : length m ≡ length l
  pub behind : (t old : List ℕ) → length old ≡ length l → Written t old l at → Written (t ++ x) old m end
