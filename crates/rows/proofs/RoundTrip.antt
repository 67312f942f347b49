-- The round trips: a text that is read and written again is the same bytes, and a row that spells an accepted text is read back
-- as the same network, and as the same row but for fan-in places that no gate uses.
use Prim.Native.Nat.{ℕ, suc, ◌*◌, ◌≤◌}
use mathlib.Core.Path.{◌≡◌, refl, ◌∙◌, ap}
use mathlib.Core.Logic.{⊎_elim}
use mathlib.Core.Bool.{false}
use mathlib.Core.List.{List, [], ◌∷◌, map}
use native.Mathlib.Omega.{arith}
use lib.ListN.{length}
use Rattle.model.specs.Network.{Gate, Network, size}
use Rattle.units.specs.Units.{held}
use Rattle.frames.specs.Digits.{spell_line}
use Rattle.frames.specs.Refusal.{no_room}
use Rattle.frames.proofs.Tests.{never, picked}
use Rattle.texts.specs.Reading.{Reading, refused, network, reading}
use Rattle.texts.specs.Spelling.{gate_bytes, spell_network}
use Rattle.texts.proofs.Accepted.{AllFit, gate_text, network_text, accepted_text}
use Rattle.rows.specs.declared.Header.{Header}
use Rattle.rows.specs.Row.{places, too_short, network_in, header_of, fill}
use Rattle.rows.specs.Spelling.{spell, row_answer}
use Rattle.rows.specs.Read.{in_room, answer, filled}
use Rattle.rows.proofs.Blocks.{long_enough, AllFew, length_fill, filled_gates, gates_filled, fill_twice, cleared, fill_again}
use Rattle.rows.proofs.Holds.{InRange}
use Rattle.rows.proofs.RowCheck.{spell_framed, row_answer_long, row_answered}

-- a text, read and written again

-- A text that is read and written again is the same bytes: an accepted text is what its network spells.
pub read_written : (text : List ℕ) (n : Network) → reading text ≡ network n → spell_network n ≡ text
read_written text n e = (accepted_text text n e).again

few : (v : ℕ) (gs : List Gate) → AllFit v gs → AllFew gs
few v [] f = tt
few v (g ∷ gs) f = (f.0.few, few (suc v) gs f.1)

counts_held : (gs : List Gate) → AllFew gs → map (λ g. spell_line (gate_bytes g (held 8 (length g.fanins)))) gs ≡ map gate_text gs
counts_held [] f = refl
counts_held (g ∷ gs) f =
    let c : held 8 (length g.fanins) ≡ length g.fanins = let m = f.0 in omega arith in rw (c, counts_held gs f.1)

module _ (text : List ℕ) (n : Network) (row : List ℕ) (e : reading text ≡ network n) (s : too_short (size n) row ≡ false) where
  all_few : AllFew n.gates
  all_few = few 0 n.gates (accepted_text text n e).fit

  long : places * length n.gates ≤ length row
  long = unfold size in long_enough (size n) row s

  capacity_held : held 32 n.capacity ≡ n.capacity
  capacity_held = let a = accepted_text text n e in omega (arith, a.capacity)

  hop_held : held 16 n.hop ≡ n.hop
  hop_held = let a = accepted_text text n e in omega (arith, a.hop)

  -- Filling keeps the row's length.
  pub filled_length : length (fill n.gates row) ≡ length row
  filled_length = length_fill n.gates row all_few long

  -- The network that an accepted text gives stands in the row that it was filled into,
  pub read_filled : network_in (header_of n) (fill n.gates row) ≡ n
  unfolding network_in size
  read_filled = rw (capacity_held, hop_held, gates_filled n.gates row all_few long)

  filled_spells : spell (header_of n) (fill n.gates row) ≡ spell_network n
  unfolding size
  filled_spells =
      let gs = filled_gates n.gates row all_few long (λ g k. spell_line (gate_bytes g (held 8 k))) ∙ counts_held n.gates all_few in
      rw (spell_framed (header_of n) (fill n.gates row), network_text n, capacity_held, hop_held, gs)

  -- the filled row spells the text,
  pub read_filled_written : spell (header_of n) (fill n.gates row) ≡ text
  read_filled_written = filled_spells ∙ read_written text n e

  -- and answers the network.
  pub read_filled_answers : row_answer (header_of n) (fill n.gates row) ≡ network n
  read_filled_answers =
      let l = filled_length in
      let r = long_enough (size n) row s in
      row_answer_long (header_of n) (fill n.gates row) (omega arith) ∙ ap reading read_filled_written ∙ e

  -- A row that was filled with the network is filled with it to itself.
  pub filled_again : fill (network_in (header_of n) (fill n.gates row)).gates (fill n.gates row) ≡ fill n.gates row
  filled_again = rw read_filled (fill_twice n.gates row all_few long)

-- an answer that is a network: the text was accepted, and there was room
answered : (row : List ℕ) (r : Reading) (n : Network) → in_room row r ≡ network n → (r ≡ network n) × (too_short (size n) row ≡ false)
unfolding in_room
answered row (refused f) n e = never cc
answered row (network m) n e =
    ⊎_elim (λ t. let z = t.1 in never cc) (λ t. let z = t.1 in let f = t.0 in let d : m ≡ n = cc in (z, rw d at f))
    (picked (too_short (size m) row) (refused no_room) (network m) e)

-- The same, of the answer with a row lent: what it leaves in the row spells the text.
pub answer_filled_written : (text : List ℕ) (n : Network) (row : List ℕ) → answer text row ≡ network n
    → spell (header_of n) (filled (answer text row) row) ≡ text
unfolding answer filled
answer_filled_written text n row e =
    let a = answered row (reading text) n e in rw e (read_filled_written text n row a.0 a.1)

-- a row, written and read again

-- A row that spells an accepted text is read back: the network read is the one that stands in it, and filling it in leaves the
-- row as it is, but for the unused fan-in places, which are made 0.
pub record ReadBack (h : Header) (row : List ℕ) (n : Network) : Type 0 where
  pub same_network : n ≡ network_in h row
  pub same_row : fill n.gates row ≡ cleared h.gates row

pub row_read_back : (h : Header) (row : List ℕ) → InRange row → (n : Network) → row_answer h row ≡ network n → ReadBack h row n
row_read_back h row fit n e =
    let a = row_answered h row fit n e in
    record { same_network = a.same; same_row = rw a.same (fill_again h row a.long a.few) }
