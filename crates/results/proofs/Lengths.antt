-- How many lines a result has, how many members a cluster, and how many bytes a line.
use Prim.Native.Nat.{ℕ, zero, suc, ◌+◌, ◌*◌, ◌≤◌}
use mathlib.Core.Path.{◌≡◌, refl}
use mathlib.Core.Logic.{⊎_elim}
use mathlib.Core.Bool.{Bool, true, false}
use mathlib.Core.List.{List, [], ◌∷◌}
use native.Mathlib.Omega.{arith}
use lib.ListN.{length, length-append, length-map}
use Rattle.model.specs.Basics.{upto, keep, gather, member}
use Rattle.model.specs.Network.{Network, size}
use Rattle.model.specs.Label.{cluster}
use Rattle.model.specs.Drawing.{members}
use Rattle.model.proofs.Lists.{true_or_false}
use Rattle.frames.specs.Text.{line_feed}
use Rattle.frames.specs.Digits.{byte_digits, spell_line}
use Rattle.frames.proofs.Digits.{length_digits}
use Rattle.results.specs.Result.{result_lines}

pub keep_shorter : (test : ℕ → Bool) (xs : List ℕ) → length (keep test xs) ≤ length xs
unfolding keep
keep_shorter test [] = omega arith
keep_shorter test (x ∷ xs) =
    ⊎_elim (λ (t : test x ≡ true). rw t (omega (arith, keep_shorter test xs)))
    (λ (t : test x ≡ false). rw t (omega (arith, keep_shorter test xs)))
    (true_or_false (test x))

pub length_upto : (k : ℕ) → length (upto k) ≡ k
unfolding upto
length_upto zero = refl
length_upto (suc k) = omega (arith, length-append (upto k) (k ∷ []), length_upto k)

pub members_few : (n : Network) (l : List ℕ) (r : ℕ) → length (members n l r) ≤ size n
unfolding members
members_few n l r = omega (arith, keep_shorter (λ x. member x (cluster n l r)) (upto (size n)), length_upto (size n))

pub line_length : (bs : List ℕ) → length (spell_line bs) ≡ 2 * length bs + 1
unfolding spell_line
line_length bs = omega (arith, length-append (gather byte_digits bs) (line_feed ∷ []), length_digits bs)

module _ (n : Network) (l roots : List ℕ) where
  pub result_count : length (result_lines n l roots) ≡ 2 + size n + length roots
  unfolding result_lines
  result_count =
      simp (length-append, length-map) (omega (arith, length_upto (size n)))
