-- Where all lines are faultless up to 0F, gate v stands in line v + 2, and the network has two lines more than gates.
use Prim.Native.Nat.{ℕ, suc, ◌+◌, ◌<◌}
use mathlib.Core.Path.{◌≡◌, refl, sym, ◌∙◌, ap}
use mathlib.Core.Bool.{Bool, true, false, cond}
use mathlib.Core.List.{List, [], ◌∷◌, ◌++◌}
use native.Mathlib.Decide.{dec_lt}
use native.Mathlib.Omega.{arith}
use lib.Dec.{eqb}
use lib.ListN.{length, get_or, length-append, get_or-append}
use lib.Seq.{get_or-append_seam}
use Rattle.model.specs.Network.{Gate, Network, size, gate}
use Rattle.frames.specs.declared.Place.{Place}
use Rattle.frames.specs.declared.Place.TheVariants.{Opening, AfterGates, Closed}
use Rattle.frames.specs.Text.{Line}
use Rattle.frames.specs.Table.{kind, next_place, gate_of}
use Rattle.frames.specs.Fault.{Faultless}
use Rattle.frames.proofs.Fault.{fault_none}
use Rattle.texts.specs.Reading.{nothing_read, take_in, with_header, with_gate}
use Rattle.texts.specs.Says.{Before, first, after}
use Rattle.texts.proofs.Faultless.{closed_line}

-- no line at all
abbrev pub blank : Line
blank = record { digits = []; ended = false }

-- every gate of n is the one in its line; line 1 is the first of the list
abbrev pub InLine : List Line → Network → Type 0
InLine front n = (v : ℕ) → v < size n → gate n v ≡ gate_of (get_or front (suc v) blank)

Stood : Place → List Line → Network → Type 0
Stood Opening front n = (length front ≡ 0) × (size n ≡ 0)
Stood (AfterGates g) front n = (length front ≡ suc g) × (size n ≡ g) × InLine front n
Stood Closed front n = (length front ≡ size n + 2) × InLine front n

last : {A : Type 0} (xs : List A) (y d : A) (v : ℕ) → v ≡ length xs → get_or (xs ++ (y ∷ [])) v d ≡ y
last xs y d v e = rw e (get_or-append_seam xs y [] d)

-- a line more leaves the earlier gates in their lines
still : (front : List Line) (l : Line) (n : Network) → size n < length front → InLine front n → InLine (front ++ (l ∷ [])) n
still front l n room h v known = h v known ∙ ap gate_of (sym (get_or-append front (l ∷ []) blank (suc v) (omega arith)))

-- and a gate's own line puts it there
joined :
    (front : List Line) (l : Line) (n : Network) →
    length front ≡ suc (size n) → InLine front n → InLine (front ++ (l ∷ [])) (with_gate n l)
unfolding with_gate size gate
joined front l n at h v known =
    elim (dec_lt v (length n.gates)) [
      | yes before ↦
          get_or-append n.gates (gate_of l ∷ []) none v before ∙ still front l n (omega arith) h v before
      | no past ↦
          let here : v ≡ length n.gates = omega (arith, length-append n.gates (gate_of l ∷ [])) in
          last n.gates (gate_of l) none v here ∙ ap gate_of (sym (last front l blank (suc v) (omega arith)))
    ]
  where
    none : Gate
    none = record { weight = 0; delay = 0; fanins = [] }

module _ (front : List Line) (n : Network) (l : Line) where
  with_one : size (with_gate n l) ≡ size n + 1
  unfolding size with_gate
  with_one = length-append n.gates (gate_of l ∷ [])

  next : (p : Place) → Faultless p l → Stood p front n → Stood (next_place p l) (front ++ (l ∷ [])) (take_in n p l)
  unfolding Stood next_place take_in with_header size
  next Opening clear s = (simp length-append (omega (arith, s.0)), s.1, λ v known. absurd (omega (arith, s.1)))
  next (AfterGates g) clear s = go (eqb (kind l) 0x02)
    where
      go :
          (t : Bool) →
          Stood (cond t (AfterGates (suc g)) Closed) (front ++ (l ∷ [])) (cond t (with_gate n l) n)
      go true = (
        simp length-append (omega (arith, s.0)),
        with_one ∙ omega (arith, s.1),
        joined front l n (omega (arith, s.0, s.1)) s.2,
      )
      go false =
          (simp length-append (omega (arith, s.0, s.1)), still front l n (omega (arith, s.0, s.1)) s.2)
  next Closed clear s = absurd (closed_line l ((fault_none Closed l).1 clear))

stood : {front : List Line} {p : Place} {n : Network} → Before front p n → Stood p front n
unfolding Stood nothing_read size
stood first = (refl, refl)
stood (after {front = front} {p = p} {n = n} {l = l} b clear) = next front n l p clear (stood b)

pub gate_line : {ls : List Line} {n : Network} → Before ls Closed n → InLine ls n
unfolding Stood
gate_line b = (stood b).1

pub line_count : {ls : List Line} {n : Network} → Before ls Closed n → length ls ≡ size n + 2
unfolding Stood
line_count b = (stood b).0
