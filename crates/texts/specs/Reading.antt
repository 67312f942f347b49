-- What every text answers: a network, or one refusal.
use Rattle.std.specs.Prelude.{ℕ, suc, cond, List, [], ◌∷◌, ◌++◌, length, ltb, eqb}
use Rattle.std.proofs.Math.Option.{Option, none, some}
use Rattle.model.specs.Network.{Gate, Network}
use Rattle.frames.specs.Text.{Line, lines}
use Rattle.frames.specs.declared.Place.{Place}
use Rattle.frames.specs.declared.Place.TheVariants.{Opening, AfterGates, Closed}
use Rattle.frames.specs.declared.Refusal.{Refusal}
use Rattle.frames.specs.Refusal.{at_column, at_line, at_no_line}
use Rattle.frames.specs.Table.{kind, fault, column, next_place, header_capacity, header_hop, gate_of}

-- [B5] the bytes that a text may have
abbrev pub most_text : ℕ
most_text = 24_576

-- [T1] a refusal, or a network
pub data Reading : Type 0 where
  refused : Refusal → Reading
  network : Network → Reading

-- before the first line
unfoldable pub nothing_read : Network
nothing_read = record { capacity = 0; hop = 0; gates = [] }

unfoldable pub with_header : Network → Line → Network
unfolding header_capacity header_hop
with_header n l = record { capacity = header_capacity l; hop = header_hop l; gates = n.gates }

unfoldable pub with_gate : Network → Line → Network
unfolding gate_of
with_gate n l = record { capacity = n.capacity; hop = n.hop; gates = n.gates ++ (gate_of l ∷ []) }

-- what a line without fault adds to the network read so far
unfoldable pub take_in : Network → Place → Line → Network
unfolding with_header with_gate kind
take_in n Opening l = with_header n l
take_in n (AfterGates g) l = cond (eqb (kind l) 0x02) (with_gate n l) n
take_in n Closed l = n

-- [O4] a missing end, told behind the last line
unfoldable pub at_the_end : Place → ℕ → Network → Reading
at_the_end Opening at n = refused (at_line 3 at)
at_the_end (AfterGates g) at n = refused (at_line 3 at)
at_the_end Closed at n = network n

-- a fault is told at its line, with its column; without one reading goes on
unfoldable pub unless : Option ℕ → ℕ → Line → Reading → Reading
unfolding column
unless none at l r = r
unless (some k) at l r = refused (at_column k at (column k l))

-- [O3] the first faulty line decides
unfoldable pub walk : Place → ℕ → Network → List Line → Reading
unfolding at_the_end unless fault next_place take_in
walk p at n [] = at_the_end p at n
walk p at n (l ∷ ls) = unless (fault p l) at l (walk (next_place p l) (suc at) (take_in n p l) ls)

-- [N9] the line of the first gate heavier than M; gate 0 stands in line 2
unfoldable pub first_heavy : ℕ → ℕ → List Gate → Option ℕ
first_heavy capacity at [] = none
first_heavy capacity at (g ∷ gs) = cond (ltb capacity g.weight) (some at) (first_heavy capacity (suc at) gs)

unfoldable pub told_heavy : Option ℕ → Network → Reading
told_heavy none n = network n
told_heavy (some at) n = refused (at_line 9 at)

unfoldable pub weigh : Reading → Reading
unfolding told_heavy first_heavy
weigh (refused f) = refused f
weigh (network n) = told_heavy (first_heavy n.capacity 2 n.gates) n

-- [N1] [O2] [O5] Too long first, then the lines, then a heavy gate.
unfoldable pub reading : List ℕ → Reading
unfolding weigh walk nothing_read lines
reading text = cond (ltb most_text (length text)) (refused (at_no_line 1)) (weigh (walk Opening 1 nothing_read (lines text)))
