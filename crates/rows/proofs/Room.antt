-- [O6] `AnswerExactly` of specs/Exactly.antt: with a row lent the answer is a refusal exactly when the table says it, 10
-- included, which is said after all others, and a network exactly when the table says nothing.
use Prim.Native.Nat.{ℕ, ◌*◌}
use mathlib.Core.Path.{◌≡◌, refl, ◌∙◌, ap}
use mathlib.Core.Bool.{Bool, true, false, cond}
use mathlib.Core.List.{List}
use borrow.Author.Tests.{ltb-true, lt-ltb}
use lib.ListN.{length}
use Rattle.model.specs.Network.{Network, size}
use Rattle.frames.specs.declared.Refusal.{Refusal}
use Rattle.frames.specs.Refusal.{no_room}
use Rattle.frames.proofs.Tests.{never}
use Rattle.texts.specs.Reading.{Reading, refused, network, reading}
use Rattle.texts.specs.Says.{Reads}
use Rattle.texts.proofs.Exactly.{Some, said, read, exactly}
use Rattle.texts.proofs.Table.{reading_exactly}
use Rattle.rows.specs.Row.{places, too_short}
use Rattle.rows.specs.Read.{in_room, answer}
use Rattle.rows.specs.Says.{Short, SaysRoom, of_text, short_row, ReadsRoom}
use Rattle.rows.specs.Exactly.{AnswerExactly}

-- a row is too short by the test exactly when it is

module _ (gates : ℕ) (row : List ℕ) where
  test_short : too_short gates row ≡ true → Short gates row
  unfolding too_short
  test_short t = ltb-true (length row) (places * gates) t

  short_test : Short gates row → too_short gates row ≡ true
  unfolding too_short
  short_test s = lt-ltb (length row) (places * gates) s

-- reading with a row lent

room_refused : (text row : List ℕ) (f : Refusal) → reading text ≡ refused f → answer text row ≡ refused f
unfolding answer in_room
room_refused text row f h = rw h

room_network :
    (text row : List ℕ) (n : Network) →
    reading text ≡ network n → answer text row ≡ cond (too_short (size n) row) (refused no_room) (network n)
unfolding answer in_room
room_network text row n h = rw h

module _ (text row : List ℕ) where
  refused_says : (f : Refusal) → SaysRoom text row f → answer text row ≡ refused f
  refused_says f (of_text s) = room_refused text row f (((reading_exactly text).refusal f).1 s)
  refused_says _ (short_row {n = n} r s) =
      room_network text row n (((reading_exactly text).whole n).1 r)
      ∙ ap (λ t. cond t (refused no_room) (network n)) (short_test (size n) row s)

  network_reads : (n : Network) → ReadsRoom text row n → answer text row ≡ network n
  network_reads n r =
      room_network text row n (((reading_exactly text).whole n).1 r.reads) ∙ go (too_short (size n) row) refl
    where
      go : (t : Bool) → too_short (size n) row ≡ t → cond t (refused no_room) (network n) ≡ network n
      go true t = absurd (r.room (test_short (size n) row t))
      go false t = refl

  enough : (n : Network) → Reads text n → (t : Bool) → too_short (size n) row ≡ t → Some (SaysRoom text row) (ReadsRoom text row)
  enough n r true t = said (short_row r (test_short (size n) row t))
  enough n r false t = read (record { reads = r; room = λ s. let e = short_test (size n) row s in never cc })

  says_or_reads : (r : Reading) → reading text ≡ r → Some (SaysRoom text row) (ReadsRoom text row)
  says_or_reads (refused f) e = said (of_text (((reading_exactly text).refusal f).0 e))
  says_or_reads (network n) e = enough n (((reading_exactly text).whole n).0 e) (too_short (size n) row) refl

pub answer_exactly : AnswerExactly
answer_exactly text row =
    exactly (SaysRoom text row) (ReadsRoom text row) (answer text row) (refused_says text row) (network_reads text row)
    (says_or_reads text row (reading text) refl)
