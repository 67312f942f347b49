-- Laws of the three frames of a network: bytes of a frame's length and type are what the frame's values spell.
use Prim.Native.Nat.{ℕ, suc, ◌+◌, ◌*◌, ◌<◌}
use mathlib.Core.Path.{◌≡◌, ◌∙◌, ap}
use mathlib.Core.List.{List, [], ◌∷◌, ◌++◌}
use native.Mathlib.Omega.{arith}
use lib.ListN.{length, get_or, drop, drop_of_length-le, length-drop}
use lib.Seq.{drop-cons, get_or-drop}
use Rattle.model.specs.Basics.{gather}
use Rattle.frames.specs.Text.{word_at, long_at, words}
use Rattle.frames.specs.Digits.{word_bytes}
use Rattle.texts.specs.Spelling.{header_bytes, gate_bytes, end_bytes}
use Rattle.frames.proofs.Digits.{Below, word_bytes_of, long_bytes_of, bytes_words}

-- the byte at a place, and those behind it
at : (bs : List ℕ) (i : ℕ) → i < length bs → drop i bs ≡ get_or bs i 0 ∷ drop (suc i) bs
at bs i h = drop-cons bs i 0 h

module _ (bs : List ℕ) (h : Below 256 bs) where
  pub header_again : length bs ≡ 7 → get_or bs 0 0 ≡ 0x01 → header_bytes (long_at bs 1) (word_at bs 5) ≡ bs
  unfolding header_bytes long_at
  header_again e k =
      let l = long_bytes_of (get_or bs 1 0) (get_or bs 2 0) (get_or bs 3 0) (get_or bs 4 0) (h 1) (h 2) (h 3) (h 4) in
      let w = word_bytes_of (get_or bs 5 0) (get_or bs 6 0) (h 5) (h 6) in
      let z = drop_of_length-le bs {i = 7} (omega arith) in
      ap (λ (x : List ℕ). 0x01 ∷ x ++ word_bytes (word_at bs 5)) l
      ∙ ap (λ (x : List ℕ). 0x01 ∷ get_or bs 1 0 ∷ get_or bs 2 0 ∷ get_or bs 3 0 ∷ get_or bs 4 0 ∷ x) w
      ∙ cc (at bs 0 (omega arith), at bs 1 (omega arith), at bs 2 (omega arith), at bs 3 (omega arith), at bs 4 (omega arith), at bs 5 (omega arith), at bs 6 (omega arith))

  pub gate_again : (k : ℕ) → length bs ≡ 6 + 2 * k → get_or bs 0 0 ≡ 0x02 → get_or bs 5 0 ≡ k
      → gate_bytes (record { weight = word_at bs 1; delay = word_at bs 3; fanins = words (drop 6 bs) }) k ≡ bs
  unfolding gate_bytes word_at
  gate_again k e t c =
      let w = word_bytes_of (get_or bs 1 0) (get_or bs 2 0) (h 1) (h 2) in
      let d = word_bytes_of (get_or bs 3 0) (get_or bs 4 0) (h 3) (h 4) in
      let f = bytes_words (drop 6 bs) k (simp length-drop (omega arith)) (λ i. rw get_or-drop (h (6 + i))) in
      ap (λ (x : List ℕ). 0x02 ∷ x ++ word_bytes (word_at bs 3) ++ (k ∷ []) ++ gather word_bytes (words (drop 6 bs))) w
      ∙ ap (λ (x : List ℕ). 0x02 ∷ get_or bs 1 0 ∷ get_or bs 2 0 ∷ x ++ (k ∷ []) ++ gather word_bytes (words (drop 6 bs))) d
      ∙ ap (λ (x : List ℕ). 0x02 ∷ get_or bs 1 0 ∷ get_or bs 2 0 ∷ get_or bs 3 0 ∷ get_or bs 4 0 ∷ k ∷ x) f
      ∙ cc (at bs 0 (omega arith), at bs 1 (omega arith), at bs 2 (omega arith), at bs 3 (omega arith), at bs 4 (omega arith), at bs 5 (omega arith))

  pub end_again : length bs ≡ 3 → get_or bs 0 0 ≡ 0x0F → end_bytes (word_at bs 1) ≡ bs
  unfolding end_bytes word_at
  end_again e k =
      let w = word_bytes_of (get_or bs 1 0) (get_or bs 2 0) (h 1) (h 2) in
      let z = drop_of_length-le bs {i = 3} (omega arith) in
      ap (λ (x : List ℕ). 0x0F ∷ x) w ∙ cc (at bs 0 (omega arith), at bs 1 (omega arith), at bs 2 (omega arith))
