-- A refusal as a value.
use Rattle.std.specs.Prelude.{ℕ}
use Rattle.frames.specs.declared.Refusal.{Refusal}
use Rattle.frames.specs.declared.Cause.{Cause}
use Rattle.frames.specs.declared.Cause.TheVariants.{TooLong, Misplaced, WrongLength, OneTooMany, Unordered, Miscounted, NoGates, TooHeavy, TooShort, BadDigit, OddDigits, EmptyLine, NotEnded}

-- the number that a cause is told by
abbrev pub number_of : Cause → ℕ
number_of TooLong = 1
number_of Misplaced = 3
number_of WrongLength = 4
number_of OneTooMany = 5
number_of Unordered = 6
number_of Miscounted = 7
number_of NoGates = 8
number_of TooHeavy = 9
number_of TooShort = 10
number_of BadDigit = 21
number_of OddDigits = 22
number_of EmptyLine = 23
number_of NotEnded = 24

-- [O1] number, line and column, and nothing else
abbrev pub at_column : ℕ → ℕ → ℕ → Refusal
at_column number line column = record { number = number; line = line; column = column }

-- [O1] told at column 0: no place of the line is pointed at
abbrev pub at_line : ℕ → ℕ → Refusal
at_line number line = at_column number line 0

-- [O1] told at line 0: no line of the text is at fault
abbrev pub at_no_line : ℕ → Refusal
at_no_line number = at_line number 0

-- [N10] a lent row is too short
abbrev pub no_room : Refusal
no_room = at_no_line 10
