-- `RowNumbers` of specs/Exactly.antt: a row is refused by what its check finds, which is 10, 1, what the line of a gate can be given, 8
-- or 9, each told without a column.
use Prim.Native.Nat.{ℕ, zero, suc}
use Rattle.std.specs.Prelude.{Result, Ok, Err}
use mathlib.Core.Path.{◌≡◌, refl, sym, ◌∙◌}
use mathlib.Core.Bool.{Bool, true, false}
use mathlib.Core.List.{List, [], ◌∷◌}
use mathlib.Core.Option.{Option}
use lib.Dec.{ltb, eqb}
use Rattle.model.specs.Basics.{◌∈◌, member}
use Rattle.model.proofs.Lists.{member_true}
use Rattle.frames.specs.declared.Refusal.{Refusal}
use Rattle.frames.specs.Refusal.{at_line}
use Rattle.frames.proofs.Tests.{never}
use Rattle.texts.specs.Reading.{refused, network}
use Rattle.rows.specs.declared.Header.{Header}
use Rattle.rows.specs.Row.{too_short, weight_in, count_in, fanins_in, network_in}
use Rattle.rows.specs.Exactly.{RowNumbers}
use Rattle.rows.specs.steps.RowCheck.{settled, fault_if, told, first_of, line_of_gate, too_long, gate_fault, first_fault, heavy_fault, first_heavy_fault, text_fault, row_fault, unless_fault, row_check}
use Rattle.rows.proofs.RowCheck.{GateNumber, right, four, five, six, gate_given, row_answer_check}

abbrev numbers : List ℕ
numbers = 1 ∷ 4 ∷ 5 ∷ 6 ∷ 8 ∷ 9 ∷ 10 ∷ []

-- what a row can be refused by, and what its check can find
abbrev RowRefusal : Refusal → Type 0
RowRefusal f = (f.number ∈ numbers) × (f.column ≡ 0)

data RowFault : Result (Unit {0}) Refusal → Type 0 where
  nothing : RowFault (Ok (tt {0}))
  found : {f : Refusal} → RowRefusal f → RowFault (Err f)

one : (k line : ℕ) → member k numbers ≡ true → RowFault (Err (at_line k line))
one k line listed = found (member_true k numbers listed, refl)

by_test : (test : Bool) (k line : ℕ) → member k numbers ≡ true → RowFault (fault_if test (at_line k line))
unfolding fault_if
by_test true k line listed = one k line listed
by_test false k line listed = nothing

by_first : {f g : Result (Unit {0}) Refusal} → RowFault f → RowFault g → RowFault (first_of f g)
unfolding first_of
by_first nothing later = later
by_first (found of) later = found of

of_gate : (row : List ℕ) (v : ℕ) → RowFault (gate_fault row v)
unfolding gate_fault told member
of_gate row v = by (gate_given v (count_in row v) (fanins_in row v))
  where
    by : {o : Option ℕ} → GateNumber o → RowFault (told o (line_of_gate v))
    by right = nothing
    by four = one 4 (line_of_gate v) refl
    by five = one 5 (line_of_gate v) refl
    by six = one 6 (line_of_gate v) refl

of_gates : (row : List ℕ) (v k : ℕ) → RowFault (first_fault row v k)
unfolding first_fault
of_gates row v zero = nothing
of_gates row v (suc k) = by_first (of_gate row v) (of_gates row (suc v) k)

of_weights : (capacity : ℕ) (row : List ℕ) (v k : ℕ) → RowFault (first_heavy_fault capacity row v k)
unfolding first_heavy_fault heavy_fault member
of_weights capacity row v zero = nothing
of_weights capacity row v (suc k) =
    by_first (by_test (ltb capacity (weight_in row v)) 9 (line_of_gate v) refl) (of_weights capacity row (suc v) k)

of_row : (h : Header) (row : List ℕ) → RowFault (row_fault h row)
unfolding row_fault text_fault member
of_row h row =
    by_first (by_test (too_short h.gates row) 10 0 refl)
    (by_first (by_test (too_long h.gates row) 1 0 refl)
    (by_first (of_gates row 0 h.gates)
    (by_first (by_test (eqb h.gates 0) 8 (line_of_gate 0) refl) (of_weights h.capacity.0 row 0 h.gates))))

pub row_numbers : RowNumbers
unfolding row_check unless_fault
row_numbers h row fit f e = by (of_row (settled h) row) (sym (row_answer_check h row fit) ∙ e)
  where
    by : {g : Result (Unit {0}) Refusal} → RowFault g → unless_fault g (network (network_in h row)) ≡ refused f → RowRefusal f
    by nothing e = never cc
    by (found {f = g} of) e = let same : g ≡ f = cc in rw (← same) of
