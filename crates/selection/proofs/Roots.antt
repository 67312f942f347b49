-- Laws of the roots that marks tell.
use Prim.Native.Nat.{ℕ, zero, suc, min, ◌+◌, ◌≤◌, ◌<◌}
use mathlib.Core.Path.{◌≡◌, refl, sym, ◌∙◌, ap}
use mathlib.Core.Logic.{◌⊎◌, inl, inr, ⊎_elim}
use mathlib.Core.List.{List, [], ◌∷◌, ◌++◌}
use native.Mathlib.Numerals.{add-one}
use native.Mathlib.Omega.{arith}
use borrow.Author.Tests.{lt-ltb, le-ltb}
use lib.Dec.{ltb}
use lib.ListN.{length, get_or, take, replicate, length-append, length-replicate, get_or-append, get_or-eq_default}
use lib.Seq.{get_or_at}
use Rattle.std.proofs.lemmas.Bool.{cases_lt}
use Rattle.std.proofs.lemmas.List.{get_or-take, length-take}
use Rattle.model.specs.Basics.{◌∈◌, keep, upto}
use Rattle.model.specs.Network.{Network, size, outputs}
use Rattle.model.specs.Drawing.{mark, marks, drawn}
use Rattle.model.proofs.Lists.{same_or_not, keep_in, upto_in}
use Rattle.model.proofs.Drawn.{length_mark, length_select}
use Rattle.labelling.proofs.Lists.{get_or_in}
use Rattle.selection.specs.Selection.{roots}
use Rattle.selection.proofs.Marks.{keep_one, keep_other, keep_agree}

-- roots, a gate at a time

pub roots_none : (marks : List ℕ) → roots marks 0 ≡ []
unfolding roots upto keep
roots_none marks = refl

pub roots_marked : (marks : List ℕ) (v : ℕ) → (get_or marks v 0 ≡ 0 → ⊥) → roots marks (v + 1) ≡ roots marks v ++ (v ∷ [])
unfolding roots
roots_marked marks v h = rw add-one (keep_one (λ r. ltb 0 (get_or marks r 0)) v (lt-ltb 0 (get_or marks v 0) (omega arith)))

pub roots_bare : (marks : List ℕ) (v : ℕ) → get_or marks v 0 ≡ 0 → roots marks (v + 1) ≡ roots marks v
unfolding roots
roots_bare marks v h = rw add-one (keep_other (λ r. ltb 0 (get_or marks r 0)) v (le-ltb 0 (get_or marks v 0) (omega arith)))

-- one gate more, marked or not
roots_more : (marks : List ℕ) (k : ℕ) → (roots marks (suc k) ≡ roots marks k ++ (k ∷ [])) ⊎ (roots marks (suc k) ≡ roots marks k)
roots_more marks k =
    ⊎_elim (λ (e : get_or marks k 0 ≡ 0). inr (rw add-one at (roots_bare marks k e)))
    (λ (d : get_or marks k 0 ≡ 0 → ⊥). inl (rw add-one at (roots_marked marks k d)))
    (same_or_not (get_or marks k 0) 0)

-- A gate past the row's end has no mark, so that the roots below the end are all.
roots_end : (marks : List ℕ) (v k : ℕ) → v ≤ k → length marks ≤ v → roots marks k ≡ roots marks v
roots_end marks v zero h l = let e : v ≡ zero = omega arith in rw e
roots_end marks v (suc k) h l =
    ⊎_elim (λ (e : v ≡ suc k). rw e)
    (λ (d : v ≡ suc k → ⊥).
    let past : length marks ≤ k = omega arith in
    rw add-one at (roots_bare marks k (get_or-eq_default marks 0 past)) ∙ roots_end marks v k (omega arith) l)
    (same_or_not v (suc k))

-- The gates below v have been looked at, and there are no more, or no more marks.
roots_seen : (marks : List ℕ) (v k : ℕ) → v ≤ k → (k ≤ v) ⊎ (length marks ≤ v) → roots marks k ≡ roots marks v
roots_seen marks v k h l =
    ⊎_elim (λ (m : k ≤ v). let e : k ≡ v = omega arith in rw e) (λ (m : length marks ≤ v). roots_end marks v k h m) l

-- Marks in front of the row are looked at: so many as there are gates, or all that there are.
pub front_read : (marks : List ℕ) (k v : ℕ) → v < length (take k marks) → get_or (take k marks) v 0 ≡ get_or marks v 0
front_read marks k v h = get_or-take k marks v 0 (omega (arith, length-take k marks))

pub front_seen : (marks : List ℕ) (k gates v : ℕ) → k ≡ min gates (length marks) → v ≤ length (take k marks) → length (take k marks) ≤ v
    → roots marks gates ≡ roots marks v
front_seen marks k gates v e few many =
    let front = length-take k marks in
    roots_seen marks v gates (omega (arith, front))
    (⊎_elim (λ (h : gates < length marks). inl (omega (arith, front))) (λ (h : length marks ≤ gates). inr (omega (arith, front)))
    (cases_lt gates (length marks)))

-- no more roots than gates, and each a gate

pub roots_few : (marks : List ℕ) (k : ℕ) → length (roots marks k) ≤ k
roots_few marks zero = omega (arith, ap length (roots_none marks))
roots_few marks (suc k) =
    ⊎_elim (λ e. omega (arith, ap length e, length-append (roots marks k) (k ∷ []), roots_few marks k))
    (λ e. omega (arith, ap length e, roots_few marks k))
    (roots_more marks k)

pub roots_in : (marks : List ℕ) (k r : ℕ) → r ∈ roots marks k → r < k
unfolding roots
roots_in marks k r m = upto_in k r (keep_in (λ r. ltb 0 (get_or marks r 0)) r (upto k) m).0

get_d_any : (xs : List ℕ) (i d e : ℕ) → i < length xs → get_or xs i d ≡ get_or xs i e
get_d_any [] i d e h = absurd (omega arith)
get_d_any (x ∷ xs) zero d e h = refl
get_d_any (x ∷ xs) (suc i) d e h = get_d_any xs i d e (omega arith)

pub root_known : (marks : List ℕ) (k i d : ℕ) → i < length (roots marks k) → get_or (roots marks k) i d < k
root_known marks k i d h =
    rw (get_d_any (roots marks k) i d 0 h) (roots_in marks k (get_or (roots marks k) i 0) (get_or_in (roots marks k) i h))

-- the root of an index

roots_grow : (marks : List ℕ) (k : ℕ) → length (roots marks k) ≤ length (roots marks (suc k))
roots_grow marks k =
    ⊎_elim (λ e. omega (arith, ap length e, length-append (roots marks k) (k ∷ [])))
    (λ e. omega (arith, ap length e))
    (roots_more marks k)

root_counts : (marks : List ℕ) (v k : ℕ) → v < k → (get_or marks v 0 ≡ 0 → ⊥) → length (roots marks v) < length (roots marks k)
root_counts marks v zero h m = absurd (omega arith)
root_counts marks v (suc k) h m =
    ⊎_elim
    (λ (e : v ≡ k).
    rw e
    (let more = rw add-one at (roots_marked marks v m) in
    omega (arith, ap length (rw e at more), length-append (roots marks k) (k ∷ []))))
    (λ (d : v ≡ k → ⊥). omega (arith, root_counts marks v k (omega arith) m, roots_grow marks k))
    (same_or_not v k)

-- A marked gate is the root whose index is the number of roots below it,
pub root_here : (marks : List ℕ) (v k i d : ℕ) → v < k → (get_or marks v 0 ≡ 0 → ⊥) → length (roots marks v) ≡ i
    → v ≡ get_or (roots marks k) i d
root_here marks v zero i d h m e = absurd (omega arith)
root_here marks v (suc k) i d h m e =
    ⊎_elim
    (λ (q : v ≡ k).
    let more = rw add-one at (roots_marked marks v m) in
    rw (← q) (sym (ap (λ (r : List ℕ). get_or r i d) more ∙ get_or_at (roots marks v) v [] d i e)))
    (λ (n : v ≡ k → ⊥).
    let inside = root_counts marks v k (omega arith) m in
    root_here marks v k i d (omega arith) m e
    ∙ sym
    (⊎_elim
    (λ (q : roots marks (suc k) ≡ roots marks k ++ (k ∷ [])). rw q (get_or-append (roots marks k) (k ∷ []) d i (omega arith)))
    (λ (q : roots marks (suc k) ≡ roots marks k). rw q)
    (roots_more marks k)))
    (same_or_not v k)

-- and with no more roots than its index there is none.
pub root_past : (marks : List ℕ) (gates v i : ℕ) → roots marks gates ≡ roots marks v → length (roots marks v) ≤ i
    → gates ≡ get_or (roots marks gates) i gates
root_past marks gates v i seen few = sym (get_or-eq_default (roots marks gates) gates (omega (arith, ap length seen)))

-- the marks of the drawn clusters

pub length_marks : (n : Network) (l : List ℕ) → length (marks n l) ≡ size n
unfolding marks
length_marks n l =
    length_select n l (size n) (mark (replicate (size n) 0) (outputs n))
    ∙ length_mark (replicate (size n) 0) (outputs n)
    ∙ length-replicate {A = ℕ} (size n) 0

-- The marks in front of a row tell the drawn clusters.
pub drawn_roots : (n : Network) (l : List ℕ) (gates : ℕ) (rest : List ℕ) → size n ≡ gates
    → roots (marks n l ++ rest) gates ≡ drawn n l
unfolding roots drawn
drawn_roots n l gates rest s =
    rw (← s)
    (keep_agree (λ r. ltb 0 (get_or (marks n l ++ rest) r 0)) (λ r. ltb 0 (get_or (marks n l) r 0)) (upto (size n))
    (λ r m. ap (ltb 0) (get_or-append (marks n l) rest 0 r (omega (arith, length_marks n l, upto_in (size n) r m)))))
