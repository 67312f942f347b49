-- The result of a network, frame by frame.
use Rattle.std.specs.Prelude.{ℕ, List, [], ◌∷◌, ◌++◌, map, length, get_or}
use Rattle.model.specs.Basics.{gather, upto}
use Rattle.model.specs.Network.{Network, size}
use Rattle.model.specs.Drawing.{members}
use Rattle.frames.specs.declared.Refusal.{Refusal}
use Rattle.frames.specs.Digits.{word_bytes, long_bytes, spell_line}
use Rattle.selection.specs.Selection.{delay_from}

-- [F6] the output delay and how many clusters are drawn
unfoldable pub result_bytes : ℕ → ℕ → List ℕ
unfolding long_bytes word_bytes
result_bytes delay clusters = 0x11 ∷ long_bytes delay ++ word_bytes clusters

-- [F7] a gate and its label
unfoldable pub label_bytes : ℕ → ℕ → List ℕ
unfolding long_bytes word_bytes
label_bytes v label = 0x12 ∷ word_bytes v ++ long_bytes label

-- [F8] a root, how many members its cluster has, and they
unfoldable pub cluster_bytes : ℕ → List ℕ → List ℕ
unfolding word_bytes gather
cluster_bytes r inside = 0x13 ∷ word_bytes r ++ word_bytes (length inside) ++ gather word_bytes inside

-- [F9] how many gates there are
unfoldable pub result_end_bytes : ℕ → List ℕ
unfolding word_bytes
result_end_bytes gates = 0x1F ∷ word_bytes gates

-- [F10] which refusal, at what line, and at what column of it
unfoldable pub refusal_bytes : Refusal → List ℕ
unfolding word_bytes
refusal_bytes f = 0x1E ∷ f.number ∷ word_bytes f.line ++ word_bytes f.column

-- [F12] The lines in their order, for any row of labels and any roots.
unfoldable pub result_lines : Network → List ℕ → List ℕ → List (List ℕ)
unfolding spell_line result_bytes delay_from label_bytes upto size cluster_bytes members result_end_bytes
result_lines n row roots =
    spell_line (result_bytes (delay_from n row) (length roots))
    ∷ map (λ v. spell_line (label_bytes v (get_or row v 0))) (upto (size n))
    ++ map (λ r. spell_line (cluster_bytes r (members n row r))) roots
    ++ (spell_line (result_end_bytes (size n)) ∷ [])
