-- The lines of a result by their index, counted from 0.
use Prim.Native.Nat.{ℕ, zero, suc, ◌+◌, ◌-◌, ◌≤◌, ◌<◌}
use mathlib.Core.Path.{◌≡◌, refl, sym, ◌∙◌, ap}
use mathlib.Core.List.{List, [], ◌∷◌, ◌++◌, map, append_assoc}
use native.Mathlib.Omega.{arith}
use lib.ListN.{length, get_or, length-append, length-map, get_or-append, get_or-eq_default}
use lib.Seq.{get_or-append-add, get_or_at}
use Rattle.model.specs.Basics.{upto}
use Rattle.model.specs.Network.{Network, size}
use Rattle.model.specs.Drawing.{members}
use Rattle.frames.specs.Digits.{spell_line}
use Rattle.frames.proofs.Made.{length_made, get_or_made}
use Rattle.frames.specs.Put.{line_at}
use Rattle.selection.specs.Selection.{delay_from}
use Rattle.results.specs.Result.{result_lines, result_bytes, label_bytes, cluster_bytes, result_end_bytes}
use Rattle.results.specs.steps.Line.{later_lines}

-- the k-th of two lists of lines, one after the other
after : (xs ys : List (List ℕ)) (i : ℕ) → length xs ≤ i → get_or (xs ++ ys) i [] ≡ get_or ys (i - length xs) []
after xs ys i h =
    let e : i ≡ length xs + (i - length xs) = omega arith in
    ap (λ (k : ℕ). get_or (xs ++ ys) k []) e ∙ get_or-append-add xs ys (i - length xs) []

mapped : (f : ℕ → List ℕ) (xs : List ℕ) (i d : ℕ) → i < length xs → get_or (map f xs) i [] ≡ f (get_or xs i d)
mapped f [] i d h = absurd (omega arith)
mapped f (x ∷ xs) zero d h = refl
mapped f (x ∷ xs) (suc i) d h = mapped f xs i d (omega arith)

module _ (n : Network) (labels rs : List ℕ) where
  abbrev label_lines : List (List ℕ)
  label_lines = map (λ v. spell_line (label_bytes v (get_or labels v 0))) (upto (size n))

  length_labels : length label_lines ≡ size n
  length_labels = length_made (λ v. spell_line (label_bytes v (get_or labels v 0))) (size n)

  parts : result_lines n labels rs ≡ spell_line (result_bytes (delay_from n labels) (length rs)) ∷ (label_lines ++ later_lines n labels rs)
  unfolding result_lines later_lines
  parts =
      ap (λ (ls : List (List ℕ)). spell_line (result_bytes (delay_from n labels) (length rs)) ∷ ls)
      (append_assoc label_lines (map (λ r. spell_line (cluster_bytes r (members n labels r))) rs) (spell_line (result_end_bytes (size n)) ∷ []))

  pub first_at : {i : ℕ} → i ≡ 0 → line_at i (result_lines n labels rs) ≡ spell_line (result_bytes (delay_from n labels) (length rs))
  unfolding line_at
  first_at e = rw (e, parts)

  pub label_at : (i : ℕ) → (i ≡ 0 → ⊥) → i - 1 < size n → line_at i (result_lines n labels rs) ≡ spell_line (label_bytes (i - 1) (get_or labels (i - 1) 0))
  unfolding line_at
  label_at zero h more = absurd (h refl)
  label_at (suc i) h more =
      let e : suc i - 1 ≡ i = omega arith in
      rw (e, parts)
      (get_or-append label_lines (later_lines n labels rs) [] i (omega (arith, length_labels))
      ∙ get_or_made (λ v. spell_line (label_bytes v (get_or labels v 0))) [] (size n) i (omega arith))

  pub later_at : (i : ℕ) → (i ≡ 0 → ⊥) → size n ≤ i - 1 → line_at i (result_lines n labels rs) ≡ line_at (i - 1 - size n) (later_lines n labels rs)
  unfolding line_at
  later_at zero h more = absurd (h refl)
  later_at (suc i) h more =
      let e : suc i - 1 - size n ≡ i - length label_lines = omega (arith, length_labels) in
      rw (e, parts) (after label_lines (later_lines n labels rs) i (omega (arith, length_labels)))

  -- behind the labels

  abbrev cluster_lines : List (List ℕ)
  cluster_lines = map (λ r. spell_line (cluster_bytes r (members n labels r))) rs

  length_clusters : length cluster_lines ≡ length rs
  length_clusters = length-map rs _

  pub cluster_at : (i d : ℕ) → i < length rs
      → line_at i (later_lines n labels rs) ≡ spell_line (cluster_bytes (get_or rs i d) (members n labels (get_or rs i d)))
  unfolding line_at later_lines
  cluster_at i d h =
      get_or-append cluster_lines (spell_line (result_end_bytes (size n)) ∷ []) [] i (omega (arith, length_clusters))
      ∙ mapped (λ r. spell_line (cluster_bytes r (members n labels r))) rs i d h

  pub end_at : (i : ℕ) → i ≡ length rs → line_at i (later_lines n labels rs) ≡ spell_line (result_end_bytes (size n))
  unfolding line_at later_lines
  end_at i e = get_or_at cluster_lines (spell_line (result_end_bytes (size n))) [] [] i (length_clusters ∙ sym e)

  pub none_at : (i : ℕ) → length rs < i → line_at i (later_lines n labels rs) ≡ []
  unfolding line_at later_lines
  none_at i h =
      get_or-eq_default (cluster_lines ++ (spell_line (result_end_bytes (size n)) ∷ [])) []
      (omega (arith, length-append cluster_lines (spell_line (result_end_bytes (size n)) ∷ []), length_clusters))
