-- The worked rows P7 and P10 to P13, and cases that go wrong easily, each with its answer: one table, one statement.
use Prim.Native.Nat.{ℕ, zero, suc}
use Prim.Native.String.{String}
use mathlib.Core.Path.{◌≡◌, refl}
use mathlib.Core.List.{List, [], ◌∷◌, ◌++◌, map}
use lib.ListN.{replicate}
use Rattle.model.specs.Network.{Gate, Network}
use Rattle.frames.specs.Typed.{typed}
use Rattle.frames.specs.Refusal.{at_column, at_line}
use Rattle.texts.specs.Reading.{Reading, refused, network, reading}

-- texts one after the other
infixl 70 ◌&◌
abbrev ◌&◌ : List ℕ → List ℕ → List ℕ
s & t = s ++ t

times : ℕ → List ℕ → List ℕ
times zero s = []
times (suc k) s = s & times k s

infix 68 ◌answers◌
data Case : Type 0 where
  ◌answers◌ : List ℕ → Reading → Case

text_of : Case → List ℕ
text_of (text answers r) = text

answer_of : Case → Reading
answer_of (text answers r) = r

-- network A: its text with M as it is typed, and its gates
unfoldable pub A : String → List ℕ
unfolding typed
A m =
    typed "01"
    & typed m
    & typed "0004\n020001000100\n020001000200\n02000100030200000001\n0200010001010001\n02000100020200020003\n0F0005\n"

unfoldable pub a_gates : List Gate
a_gates =
    record { weight = 1; delay = 1; fanins = [] }
    ∷ record { weight = 1; delay = 2; fanins = [] }
    ∷ record { weight = 1; delay = 3; fanins = 0 ∷ 1 ∷ [] }
    ∷ record { weight = 1; delay = 1; fanins = 1 ∷ [] }
    ∷ record { weight = 1; delay = 2; fanins = 2 ∷ 3 ∷ [] }
    ∷ []

-- gates under A's header, M apart
unfoldable pub under : ℕ → List Gate → Network
under m gs = record { capacity = m; hop = 4; gates = gs }

-- A's header; a gate of weight and delay 1 with these fan-ins, and the line of one with none
header : List ℕ
unfolding typed
header = typed "01000000030004\n"

one : List ℕ → Gate
one fs = record { weight = 1; delay = 1; fanins = fs }

gate : List ℕ
unfolding typed
gate = typed "020001000100\n"

-- one gate, all 0
nought : Network
nought = record { capacity = 0; hop = 0; gates = record { weight = 0; delay = 0; fanins = [] } ∷ [] }

cases : List Case
unfolding typed times A a_gates under header one gate nought
cases =
    -- P7, P10 to P13
    A "00000000" answers refused (at_line 9 2)
    ∷ typed "" answers refused (at_line 3 1)
    ∷ header & typed "0F0000\n" answers refused (at_line 8 2)
    ∷ header & typed "0F0001\n" answers refused (at_line 7 2)
    ∷ header & typed "0200000000010000\n0F0001\n" answers refused (at_line 6 2)
    -- a network; zero is an ordinary value; weight M is not above M
    ∷ A "00000003" answers network (under 3 a_gates)
    ∷ A "00000001" answers network (under 1 a_gates)
    ∷ A "FFFFFFFF" answers network (under 4_294_967_295 a_gates)
    ∷ typed "01000000000000\n020000000000\n0F0001\n" answers network nought
    -- 512 gates; 8 fan-ins
    ∷ header & times 512 gate & typed "0F0200\n" answers network (under 3 (replicate 512 (one [])))
    ∷ header & times 8 gate & typed "02000100010800000001000200030004000500060007\n0F0009\n" answers
    network (under 3 (replicate 8 (one []) ++ (one (0 ∷ 1 ∷ 2 ∷ 3 ∷ 4 ∷ 5 ∷ 6 ∷ 7 ∷ []) ∷ [])))
    -- 1: 24,577 bytes, and not 24,576
    ∷ times 24_577 (typed "\n") answers refused (at_line 1 0)
    ∷ times 24_576 (typed "\n") answers refused (at_line 23 1)
    -- 23: line feeds only, an empty line between others
    ∷ typed "\n\n\n" answers refused (at_line 23 1)
    ∷ header & gate & typed "\n0F0001\n" answers refused (at_line 23 3)
    -- 21: a lower-case digit in the last byte, 0D before 0A, the first of two
    ∷ typed "0100000003000a\n" answers refused (at_column 21 1 14)
    ∷ typed "01000000030004\r\n" answers refused (at_column 21 1 15)
    ∷ header & typed "02000100020x0y\n" answers refused (at_column 21 2 12)
    -- 22: an odd number of digits
    ∷ typed "0100000003000\n" answers refused (at_line 22 1)
    -- 24: a last line not ended
    ∷ header & gate & typed "0F0001" answers refused (at_line 24 3)
    -- 3: an unknown type, a gate or an end first, a header twice, no end
    ∷ typed "7E\n" answers refused (at_line 3 1)
    ∷ gate answers refused (at_line 3 1)
    ∷ typed "0F0000\n" answers refused (at_line 3 1)
    ∷ header & header answers refused (at_line 3 2)
    ∷ header answers refused (at_line 3 2)
    ∷ header & gate answers refused (at_line 3 3)
    -- after 0F any line: 3, or 21 to 24 by its form
    ∷ header & gate & typed "0F0001\n" & gate answers refused (at_line 3 4)
    ∷ header & gate & typed "0F0001\n0F0001\n" answers refused (at_line 3 4)
    ∷ header & gate & typed "0F0001\n\n" answers refused (at_line 23 4)
    ∷ header & gate & typed "0F0001\n0F0001" answers refused (at_line 24 4)
    -- 4: a header too short and too long, an end too short, counts 9 and 255
    ∷ typed "010000000300\n" answers refused (at_line 4 1)
    ∷ typed "0100000003000400\n" answers refused (at_line 4 1)
    ∷ header & gate & typed "0F01\n" answers refused (at_line 4 3)
    ∷ header & typed "020000000009000000010002000300040005000600070008\n" answers refused (at_line 4 2)
    ∷ header & typed "0200000000FF\n" answers refused (at_line 4 2)
    ∷ header & typed "02000000000100\n" answers refused (at_line 4 2)
    -- 5: a 513th gate
    ∷ header & times 513 gate answers refused (at_line 5 514)
    -- 6: fan-ins falling, a fan-in twice
    ∷ header & gate & gate & typed "02000100010200010000\n" answers refused (at_line 6 4)
    ∷ header & gate & gate & typed "02000100010200010001\n" answers refused (at_line 6 4)
    -- 7: gates, and none counted
    ∷ header & gate & typed "0F0000\n" answers refused (at_line 7 3)
    -- 9: the lowest-numbered of two
    ∷ typed "01000000000000\n020000000000\n" & gate & gate & typed "0F0003\n" answers refused (at_line 9 3)
    -- the form of a line: 21 before 22 and 24, 22 before 24, each before 3
    ∷ typed "x" answers refused (at_column 21 1 1)
    ∷ typed "0" answers refused (at_line 22 1)
    ∷ typed "0f0000\n" answers refused (at_column 21 1 2)
    ∷ header & typed "FFFg\n" answers refused (at_column 21 2 4)
    ∷ header & typed "FFF\n" answers refused (at_line 22 2)
    ∷ header & typed "FF" answers refused (at_line 24 2)
    -- its frame: 3 before 4, 4 before 6, 4 before 8
    ∷ typed "0F\n" answers refused (at_line 3 1)
    ∷ header & typed "0200000000020000\n" answers refused (at_line 4 2)
    ∷ header & typed "0F00\n" answers refused (at_line 4 2)
    -- the first faulty line: 6 in it before 23 in the next; 3 after all lines before 9
    ∷ header & typed "0200000000010000\n\n" answers refused (at_line 6 2)
    ∷ typed "01000000000000\n" & gate answers refused (at_line 3 3)
    ∷ []

cases_hold : map (λ c. reading (text_of c)) cases ≡ map answer_of cases
unfolding cases reading text_of answer_of
cases_hold = refl
