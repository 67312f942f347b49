-- Laws of specs/Exactly.antt.
use Prim.Native.Nat.{ℕ}
use mathlib.Core.Path.{◌≡◌}
use native.Mathlib.Omega.{arith}
use Rattle.model.specs.Network.{Network}
use Rattle.frames.specs.declared.Refusal.{Refusal}
use Rattle.texts.specs.Reading.{Reading, refused, network}
use Rattle.texts.specs.Exactly.{Exactly}

-- a refusal is said, or a network read
pub data Some (Say : Refusal → Type 0) (Read : Network → Type 0) : Type 0 where
  said : {f : Refusal} → Say f → Some Say Read
  read : {n : Network} → Read n → Some Say Read

-- It is enough that what is said or read is answered, and that something is: an answer is never two answers.
module _
    (Say : Refusal → Type 0) (Read : Network → Type 0) (r : Reading)
    (refusing : (f : Refusal) → Say f → r ≡ refused f) (reading : (n : Network) → Read n → r ≡ network n)
  where
    said_only : (f : Refusal) → r ≡ refused f → Some Say Read → Say f
    said_only f h (said {f = g} s) = let e = refusing g s in let same : g ≡ f = cc in rw (← same) s
    said_only f h (read {n = n} s) = let e = reading n s in absurd (let z : ◌≡◌ {A = ℕ} 0 1 = cc in omega arith)

    read_only : (n : Network) → r ≡ network n → Some Say Read → Read n
    read_only n h (said {f = f} s) = let e = refusing f s in absurd (let z : ◌≡◌ {A = ℕ} 0 1 = cc in omega arith)
    read_only n h (read {n = m} s) = let e = reading m s in let same : m ≡ n = cc in rw (← same) s

    not_both : (n : Network) (f : Refusal) → r ≡ network n → Say f → ⊥
    not_both n f e s = let e' = refusing f s in let z : ◌≡◌ {A = ℕ} 0 1 = cc in omega arith

    unsaid : ((f : Refusal) → Say f → ⊥) → Some Say Read → (n : Network) × (r ≡ network n)
    unsaid nothing (said {f = f} s) = absurd (nothing f s)
    unsaid nothing (read {n = n} s) = (n, reading n s)

    pub exactly : Some Say Read → Exactly Say Read r
    exactly one =
        record {
          refusal = λ f. (λ h. said_only f h one, refusing f);
          whole = λ n. (λ h. read_only n h one, reading n);
          nothing = (λ found f. not_both found.0 f found.1, λ none. unsaid none one);
          said_once = λ f g a b. let e = refusing f a in let e' = refusing g b in cc;
          read_once = λ n m a b. let e = reading n a in let e' = reading m b in cc;
        }
