-- Laws of paths.
use Prim.Native.Nat.{ℕ, ◌+◌, ◌<◌}
use mathlib.Core.Path.{◌≡◌, refl, sym, subst}
use mathlib.Core.Logic.{◌⊎◌, inl, inr, ⊎_elim}
use native.Mathlib.Omega.{arith}
use Rattle.model.specs.Basics.{◌∈◌}
use Rattle.model.specs.Network.{Network, size, delay, fanins, position, WellFormed}
use Rattle.model.specs.Onward.{Path, start, onto}
use Rattle.model.proofs.Lists.{∈-subst}

module _ (n : Network) where
  pub path_here : (v : ℕ) → Path n v v 0
  path_here v = start refl refl

  pub path_sum : {u v d e : ℕ} → d ≡ e → Path n u v d → Path n u v e
  path_sum {u} {v} h p = subst (λ (k : ℕ). Path n u v k) h p

  pub path_edge : {x v : ℕ} → x ∈ fanins n v → Path n x v (delay n v)
  path_edge {x} {v} m = onto {e = delay n v} (path_here x) m (omega arith)

  pub path_join : {u x v d e : ℕ} → Path n u x d → Path n x v e → Path n u v (d + e)
  path_join {u} {x} {v} {d} {e} p (start h z) = rw (← h) (path_sum (omega arith) p)
  path_join {d = d} {e = e} p (onto q m h) = onto {e = d + e} (path_join p q) m (omega arith)

  -- A path is empty or has a first step.
  pub first_step :
      {u v d : ℕ} → Path n u v d
      → ((u ≡ v) × (d ≡ 0)) ⊎ ((y : ℕ) × (e : ℕ) × (u ∈ fanins n y) × Path n y v e × (d ≡ delay n y + e))
  first_step (start h z) = inl (h, z)
  first_step {u} {v} {d} (onto {x = x} {d = c} p m h) =
      ⊎_elim
      (λ (w : (u ≡ x) × (c ≡ 0)). inr (v, 0, ∈-subst (sym w.0) m, path_here v, omega arith))
      (λ (w : (y : ℕ) × (e : ℕ) × (u ∈ fanins n y) × Path n y x e × (c ≡ delay n y + e)).
      inr (w.0, w.1 + delay n v, w.2, onto w.3 m refl, omega arith))
      (first_step p)

  module _ (wf : WellFormed n) where
    pub path_known : {u v d : ℕ} → Path n u v d → v < size n → u < size n
    path_known (start h z) k = rw h k
    path_known (onto {x = x} {v = v} p m h) k = path_known p (wf.known v x m)

    pub path_rises : {u v d : ℕ} → Path n u v d → (u ≡ v) ⊎ (position n u < position n v)
    path_rises (start h z) = inl h
    path_rises {u} (onto {x = x} {v = v} p m h) =
        let b = wf.below v x m in
        ⊎_elim (λ (e : u ≡ x). inr (rw e b)) (λ (k : position n u < position n x). inr (omega arith)) (path_rises p)
