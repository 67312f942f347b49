-- What is known of a network that `find` found, and of a refusal that it gave.
use Prim.Native.Nat.{ℕ}
use mathlib.Core.Path.{◌≡◌, ap}
use mathlib.Core.List.{List}
use Rattle.std.specs.Prelude.{Result, Ok, Err}
use Rattle.frames.specs.declared.Refusal.{Refusal}
use Rattle.texts.specs.Reading.{refused}
use Rattle.rows.specs.declared.Header.{Header}
use Rattle.rows.specs.declared.network.Network.{Network as Standing}
use Rattle.rows.specs.Spelling.{row_answer}
use Rattle.rows.specs.Found.{header_found, NetworkFound}
use Rattle.rows.proofs.Holds.{InRange}
use Rattle.rows.proofs.Checked.{Known, check_network, check_refused}

-- the network of the header found stands in the row that was handed over
pub found_network : (h : Header) (row : List ℕ) → InRange row → {r : Result Standing Refusal} {n : Standing}
    → NetworkFound h row r → r ≡ Ok n → Known h n.header row
found_network h row fit f is = check_network h row fit f.answer (ap header_found is)

-- and it is that row
pub found_row : (h : Header) (row : List ℕ) {r : Result Standing Refusal} {n : Standing}
    → NetworkFound h row r → r ≡ Ok n → n.row.now ≡ row
found_row h row f is = rw is at f.same

-- a refusal is the row's
pub found_refused : (h : Header) (row : List ℕ) {r : Result Standing Refusal} {f : Refusal}
    → NetworkFound h row r → r ≡ Err f → row_answer h row ≡ refused f
found_refused h row p is = check_refused h row p.answer (ap header_found is)
