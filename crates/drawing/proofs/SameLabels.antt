-- Label rows that agree on the gates of a network have the same clusters, the same selection and the same result: what
-- stands behind the labels in a longer row is never looked at.
use Prim.Native.Nat.{ℕ, zero, suc, ◌≤◌, ◌<◌}
use mathlib.Core.Path.{◌≡◌, refl, ◌∙◌, ap}
use mathlib.Core.Bool.{cond, not}
use mathlib.Core.List.Memᴰ
use mathlib.Core.List.{List, [], ◌∷◌, map}
use native.Mathlib.Omega.{arith}
use lib.Dec.{ltb}
use lib.ListN.{length, get_or, replicate}
use Rattle.model.specs.Basics.{◌∈◌, member, keep, gather, upto, largest}
use Rattle.model.specs.Network.{Network, size, fanins, outputs, position, gate_at}
use Rattle.model.specs.Label.{cluster}
use Rattle.model.specs.Drawing.{inputs, mark, select, marks, members}
use Rattle.model.proofs.Lists.{upto_in}
use Rattle.model.proofs.Label.{cluster_agree}
use Rattle.model.proofs.Outputs.{outputs_in}
use Rattle.frames.specs.Digits.{spell_line}
use Rattle.selection.specs.Selection.{delay_from}
use Rattle.results.specs.Result.{result_lines, result_bytes, label_bytes, cluster_bytes}

map_same : {A : Type 0} (f g : ℕ → A) (xs : List ℕ) → ((x : ℕ) → x ∈ xs → f x ≡ g x) → map f xs ≡ map g xs
map_same f g [] h = refl
map_same f g (x ∷ xs) h = rw (h x (Memᴰ.head refl), map_same f g xs (λ y m. h y (Memᴰ.tail m)))

module _ (n : Network) (l l' : List ℕ) (same : (u : ℕ) → u < size n → get_or l u 0 ≡ get_or l' u 0) where
  cluster_same : (r : ℕ) → r < size n → cluster n l r ≡ cluster n l' r
  unfolding position
  cluster_same r h = cluster_agree n r l l' (λ u cone below. same u (omega arith))

  inputs_same : (r : ℕ) → r < size n → inputs n l r ≡ inputs n l' r
  unfolding inputs
  inputs_same r h =
      ap (λ (c : List ℕ). keep (λ x. not (member x c)) (gather (fanins n) c)) (cluster_same r h)

  pub members_same : (r : ℕ) → r < size n → members n l r ≡ members n l' r
  unfolding members
  members_same r h = ap (λ (c : List ℕ). keep (λ x. member x c) (upto (size n))) (cluster_same r h)

  select_same : (p : ℕ) (row : List ℕ) → p ≤ size n → select n l p row ≡ select n l' p row
  unfolding select gate_at
  select_same zero row h = refl
  select_same (suc p) row h =
      select_same p (cond (ltb 0 (get_or row p 0)) (mark row (inputs n l p)) row) (omega arith)
      ∙ ap (λ (xs : List ℕ). select n l' p (cond (ltb 0 (get_or row p 0)) (mark row xs) row)) (inputs_same p h)

  pub marks_same : marks n l ≡ marks n l'
  unfolding marks
  marks_same = select_same (size n) (mark (replicate (size n) 0) (outputs n)) (omega arith)

  pub delay_same : delay_from n l ≡ delay_from n l'
  unfolding delay_from
  delay_same = ap largest (map_same (λ v. get_or l v 0) (λ v. get_or l' v 0) (outputs n) (λ v m. same v (outputs_in n v m).known))

  pub lines_same : (rs : List ℕ) → ((r : ℕ) → r ∈ rs → r < size n) → result_lines n l rs ≡ result_lines n l' rs
  unfolding result_lines
  lines_same rs known =
      let first = ap (λ (d : ℕ). spell_line (result_bytes d (length rs))) delay_same in
      let labels =
      map_same (λ v. spell_line (label_bytes v (get_or l v 0))) (λ v. spell_line (label_bytes v (get_or l' v 0))) (upto (size n))
      (λ v m. ap (λ (x : ℕ). spell_line (label_bytes v x)) (same v (upto_in (size n) v m)))
      in
      let clusters =
      map_same (λ r. spell_line (cluster_bytes r (members n l r))) (λ r. spell_line (cluster_bytes r (members n l' r))) rs
      (λ r m. ap (λ (x : List ℕ). spell_line (cluster_bytes r x)) (members_same r (known r m)))
      in
      rw (first, labels, clusters)
