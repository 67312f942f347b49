-- The text that a network spells.
use Rattle.std.specs.Prelude.{ℕ, List, [], ◌∷◌, ◌++◌, map, length}
use Rattle.model.specs.Basics.{gather}
use Rattle.model.specs.Network.{Gate, Network, size}
use Rattle.frames.specs.Digits.{word_bytes, long_bytes, spell_line}

-- [F3] M and D
unfoldable pub header_bytes : ℕ → ℕ → List ℕ
unfolding long_bytes word_bytes
header_bytes capacity hop = 0x01 ∷ long_bytes capacity ++ word_bytes hop

-- [F4] weight, delay, fan-in count, fan-ins
unfoldable pub gate_bytes : Gate → ℕ → List ℕ
unfolding word_bytes gather
gate_bytes g count = 0x02 ∷ word_bytes g.weight ++ word_bytes g.delay ++ (count ∷ []) ++ gather word_bytes g.fanins

-- [F5] how many gates
unfoldable pub end_bytes : ℕ → List ℕ
unfolding word_bytes
end_bytes gates = 0x0F ∷ word_bytes gates

unfoldable pub join : List (List ℕ) → List ℕ
join [] = []
join (l ∷ ls) = l ++ join ls

-- [F11] the lines of a network, and the text that it spells
unfoldable pub network_lines : Network → List (List ℕ)
unfolding spell_line header_bytes gate_bytes end_bytes size
network_lines n =
    spell_line (header_bytes n.capacity n.hop)
    ∷ map (λ g. spell_line (gate_bytes g (length g.fanins))) n.gates
    ++ (spell_line (end_bytes (size n)) ∷ [])

unfoldable pub spell_network : Network → List ℕ
unfolding join network_lines
spell_network n = join (network_lines n)
