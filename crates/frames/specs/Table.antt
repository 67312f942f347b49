-- The table of refusals: the rows that speak of one line, each a test of a line where it stands, and what picks among them.
use Rattle.std.specs.Prelude.{ℕ, suc, ◌+◌, ◌*◌, Bool, true, false, cond, not, ◌&&◌, ◌||◌, List, [], ◌∷◌, ◌++◌, length, get_or, drop, leb, ltb, eqb}
use Rattle.std.proofs.Math.Option.{Option, none, some}
use Rattle.model.specs.Ceilings.{most_gates, most_fanins}
use Rattle.model.specs.Network.{Gate}
use Rattle.frames.specs.declared.Place.{Place}
use Rattle.frames.specs.declared.Place.TheVariants.{Opening, AfterGates, Closed}
use Rattle.frames.specs.Text.{Line, all_digits, digits_before, even, bytes, word_at, long_at, words}

-- What stood before a line is a `Place`: nothing, the header and so many gates, or the end.

-- the type of a frame is its first byte
unfoldable pub kind : Line → ℕ
unfolding bytes
kind l = get_or (bytes l.digits) 0 0

unfoldable pub frame_length : Line → ℕ
unfolding bytes
frame_length l = length (bytes l.digits)

-- [F3] M is bytes 1 to 4, D bytes 5 and 6
unfoldable pub header_capacity : Line → ℕ
unfolding bytes long_at
header_capacity l = long_at (bytes l.digits) 1

unfoldable pub header_hop : Line → ℕ
unfolding bytes word_at
header_hop l = word_at (bytes l.digits) 5

-- [F4] the fan-in count is byte 5, and the fan-ins are what follows
unfoldable pub gate_count : Line → ℕ
unfolding bytes
gate_count l = get_or (bytes l.digits) 5 0

unfoldable pub gate_fanins : Line → List ℕ
unfolding bytes words
gate_fanins l = words (drop 6 (bytes l.digits))

-- [F4] weight in bytes 1 and 2, delay in bytes 3 and 4
unfoldable pub gate_of : Line → Gate
unfolding bytes word_at gate_fanins
gate_of l =
    record {
      weight = word_at (bytes l.digits) 1;
      delay = word_at (bytes l.digits) 3;
      fanins = gate_fanins l;
    }

-- [F5] how many gates the end counts
unfoldable pub end_count : Line → ℕ
unfolding bytes word_at
end_count l = word_at (bytes l.digits) 1

unfoldable pub none_there : List ℕ → Bool
none_there [] = true
none_there (x ∷ xs) = false

-- [N23] nothing before the line feed
unfoldable pub empty : Place → Line → Bool
unfolding none_there
empty p l = none_there l.digits

-- [N21] a byte that is no digit
unfoldable pub bad_digit : Place → Line → Bool
unfolding all_digits
bad_digit p l = not (all_digits l.digits)

-- [N22] a digit without its second
unfoldable pub odd : Place → Line → Bool
unfolding even
odd p l = not (even l.digits)

-- [N24] no line feed behind it
unfoldable pub unended : Place → Line → Bool
unended p l = not l.ended

-- [N3] [F11] another type than the place allows
unfoldable pub misplaced : Place → Line → Bool
unfolding kind
misplaced Opening l = not (eqb (kind l) 0x01)
misplaced (AfterGates g) l = not (eqb (kind l) 0x02 || eqb (kind l) 0x0F)
misplaced Closed l = true

-- [N4] [B2] too long or too short for its type and count, or a count above the ceiling
unfoldable pub wrong_length : Place → Line → Bool
unfolding kind frame_length gate_count
wrong_length p l =
    cond (eqb (kind l) 0x01) (not (eqb (frame_length l) 7))
    (cond (eqb (kind l) 0x02)
    (ltb most_fanins (gate_count l) || not (eqb (frame_length l) (6 + 2 * gate_count l)))
    (not (eqb (frame_length l) 3)))

-- [N5] [B1] a gate behind 512
unfoldable pub one_too_many : Place → Line → Bool
unfolding kind
one_too_many Opening l = false
one_too_many (AfterGates g) l = eqb (kind l) 0x02 && leb most_gates g
one_too_many Closed l = false

-- the numbers rise strictly, from the least that is allowed and below a bound
unfoldable pub rising_from : ℕ → ℕ → List ℕ → Bool
rising_from least bound [] = true
rising_from least bound (x ∷ xs) = leb least x && ltb x bound && rising_from (suc x) bound xs

-- [N6] fan-ins that do not rise, or one not below the gate's own number, which is how many gates stand before it
unfoldable pub unordered : Place → Line → Bool
unfolding kind rising_from gate_fanins
unordered Opening l = false
unordered (AfterGates g) l = eqb (kind l) 0x02 && not (rising_from 0 g (gate_fanins l))
unordered Closed l = false

-- [N7] another count than there are gates
unfoldable pub miscounted : Place → Line → Bool
unfolding kind end_count
miscounted Opening l = false
miscounted (AfterGates g) l = eqb (kind l) 0x0F && not (eqb (end_count l) g)
miscounted Closed l = false

-- [N8] an end behind the header
unfoldable pub no_gates : Place → Line → Bool
unfolding kind
no_gates Opening l = false
no_gates (AfterGates g) l = eqb (kind l) 0x0F && eqb g 0
no_gates Closed l = false

pub record Row : Type 0 where
  pub number : ℕ
  pub given : Place → Line → Bool

-- [O3] The rows of a line's form, in the order in which they are given. They do not ask where the line stands.
unfoldable pub form_rows : List Row
unfolding empty bad_digit odd unended
form_rows =
    record { number = 23; given = empty }
    ∷ record { number = 21; given = bad_digit }
    ∷ record { number = 22; given = odd }
    ∷ record { number = 24; given = unended }
    ∷ []

-- [O3] The rows of its frame, by rising number.
unfoldable pub frame_rows : List Row
unfolding misplaced wrong_length one_too_many unordered miscounted no_gates
frame_rows =
    record { number = 3; given = misplaced }
    ∷ record { number = 4; given = wrong_length }
    ∷ record { number = 5; given = one_too_many }
    ∷ record { number = 6; given = unordered }
    ∷ record { number = 7; given = miscounted }
    ∷ record { number = 8; given = no_gates }
    ∷ []

-- [O3] The table: the form before the frame.
unfoldable pub table : List Row
unfolding form_rows frame_rows
table = form_rows ++ frame_rows

-- [O3] The number of a line, if it is faulty where it stands: that of the first row that holds.
unfoldable pub first_given : List Row → Place → Line → Option ℕ
first_given [] p l = none
first_given (r ∷ rs) p l = cond (r.given p l) (some r.number) (first_given rs p l)

unfoldable pub fault : Place → Line → Option ℕ
unfolding first_given table
fault p l = first_given table p l

-- [N21] [O1] The column told with a number: for 21 the place of the first bad digit, counted from 1; 0 with all others.
unfoldable pub column : ℕ → Line → ℕ
unfolding digits_before
column k l = cond (eqb k 21) (suc (digits_before l.digits)) 0

-- [F11] where the next line stands, after a line without fault
unfoldable pub next_place : Place → Line → Place
unfolding kind
next_place Opening l = AfterGates 0
next_place (AfterGates g) l = cond (eqb (kind l) 0x02) (AfterGates (suc g)) Closed
next_place Closed l = Closed
