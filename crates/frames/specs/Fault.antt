-- The refusals of one line as a relation: the number that a table gives for a line where it stands, if it gives one, and its
-- column.
use Rattle.std.specs.Prelude.{ℕ, suc, ◌%◌, ◌<◌, ◌≡◌, ◌↔◌, true, false, length}
use mathlib.Core.List.{List, [], ◌∷◌, ◌++◌, Memᴰ}
use Rattle.frames.specs.declared.Place.{Place}
use Rattle.frames.specs.Text.{Line, lines, digit}
use Rattle.frames.specs.Table.{Row, empty, bad_digit, odd, unended, form_rows, frame_rows, table, column}

-- [O3] The row of the number holds, and no row that stands before it in the table.
pub record GivenBy (rows : List Row) (k : ℕ) (p : Place) (l : Line) : Type 0 where
  pub before : List Row
  pub row : Row
  pub after : List Row
  pub listed : rows ≡ before ++ (row ∷ after)
  pub numbered : row.number ≡ k
  pub holds : row.given p l ≡ true
  pub clear : (r : Row) → Memᴰ r before → r.given p l ≡ false

-- no row holds
pub record FaultlessBy (rows : List Row) (p : Place) (l : Line) : Type 0 where
  pub clear : (r : Row) → Memᴰ r rows → r.given p l ≡ false

-- [O3] Each number of the rows is below all numbers behind it, so that the first row that holds is the one of the lowest number. Those
-- of a frame rise.
pub record Rises (rows : List Row) : Type 0 where
  pub below : (before : List Row) (row : Row) (after : List Row) → rows ≡ before ++ (row ∷ after)
      → (r : Row) → Memᴰ r after → row.number < r.number

-- no row of a lower number holds
pub record LowestBy (rows : List Row) (k : ℕ) (p : Place) (l : Line) : Type 0 where
  pub clear : (r : Row) → Memᴰ r rows → r.number < k → r.given p l ≡ false

-- the same of the table of refusals
abbrev pub Given : ℕ → Place → Line → Type 0
Given k p l = GivenBy table k p l

abbrev pub Faultless : Place → Line → Type 0
Faultless p l = FaultlessBy table p l

-- [O3] Below 21 the number is the lowest of the frame's, and nothing is wrong with the line's form.
pub record Lowest (k : ℕ) (p : Place) (l : Line) : Type 0 where
  pub form : FaultlessBy form_rows p l
  pub frame : LowestBy frame_rows k p l

-- [O3] An empty line of a text has no other fault of form: 23 stands alone.
abbrev pub EmptyAlone : Type 0
EmptyAlone =
    (text : List ℕ) (p : Place) (l : Line) → Memᴰ l (lines text) → empty p l ≡ true
    → (bad_digit p l ≡ false) × (odd p l ≡ false) × (unended p l ≡ false)

-- [N21] The first bad digit of a line: a byte that is no digit at that place, counted from 1, and no such byte before it.
pub record FirstBad (digits : List ℕ) (place : ℕ) : Type 0 where
  pub before : List ℕ
  pub bad : ℕ
  pub after : List ℕ
  pub listed : digits ≡ before ++ (bad ∷ after)
  pub placed : place ≡ suc (length before)
  pub wrong : digit bad ≡ 16
  pub right : (b : ℕ) → Memᴰ b before → digit b < 16

-- only digits
abbrev pub DigitsOnly : Line → Type 0
DigitsOnly l = (b : ℕ) → Memᴰ b l.digits → digit b < 16

-- When the form of a line is refused, in words, wherever the line stands.
pub record FormExactly (p : Place) (l : Line) : Type 0 where
  -- [N23] It is empty.
  pub empty : Given 23 p l ↔ (l.digits ≡ [])
  -- [N21] It has a first bad digit.
  pub bad_digit : Given 21 p l ↔ ((place : ℕ) × FirstBad l.digits place)
  -- [N22] It has only digits, and an odd number of them.
  pub odd : Given 22 p l ↔ (DigitsOnly l × (length l.digits % 2 ≡ 1))
  -- [N24] It has digits, only digits and an even number of them, and is not ended.
  pub unended : Given 24 p l ↔ ((l.digits ≡ [] → ⊥) × DigitsOnly l × (length l.digits % 2 ≡ 0) × (l.ended ≡ false))

-- [O1] The column told with a number of a line: the first bad digit's with 21, and 0 with all others.
pub data Column (l : Line) : ℕ → ℕ → Type 0 where
  of_21 : {place : ℕ} → FirstBad l.digits place → Column l 21 place
  of_another : {k : ℕ} → (k ≡ 21 → ⊥) → Column l k 0

-- [N21] The computed column of a line that is given a number is exactly that one.
abbrev pub ColumnExactly : Type 0
ColumnExactly = (k : ℕ) (p : Place) (l : Line) → Given k p l → (c : ℕ) → (column k l ≡ c) ↔ Column l k c
