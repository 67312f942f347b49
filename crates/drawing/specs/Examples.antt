-- The worked rows P1 to P24: each text typed digit by digit, and the lines that it answers as they are printed.
use Rattle.std.specs.Prelude.{ℕ, ◌≡◌, List, [], ◌∷◌, ◌++◌, map}
use Prim.Native.String.{String}
use Rattle.frames.specs.Typed.{typed}
use Rattle.drawing.specs.Answer.{answer_lines}

-- a text, and the lines that it answers
pub record Row : Type 0 where
  pub text : List ℕ
  pub printed : List (List ℕ)

unfoldable pub row : List ℕ → List String → Row
unfolding typed
row text printed = record { text = text; printed = map typed printed }

-- network A without its header, which each row types for itself
unfoldable pub A : List ℕ
unfolding typed
A = typed "020001000100\n020001000200\n02000100030200000001\n0200010001010001\n02000100020200020003\n0F0005\n"

unfoldable pub rows : List Row
unfolding row A typed
rows =
    -- [P1] Network A, M 3, D 4: delay 10; roots 0, 3 and 4.
    row (typed "01000000030004\n" ++ A)
    ("110000000A0003\n"
    ∷ "12000000000001\n" ∷ "12000100000002\n" ∷ "12000200000005\n" ∷ "12000300000003\n" ∷ "1200040000000A\n"
    ∷ "13000000010000\n" ∷ "130003000200010003\n" ∷ "1300040003000100020004\n"
    ∷ "1F0005\n" ∷ [])
    -- [P2] Network A, M 1, D 4: delay 15; every gate is a root.
    ∷ row (typed "01000000010004\n" ++ A)
    ("110000000F0005\n"
    ∷ "12000000000001\n" ∷ "12000100000002\n" ∷ "12000200000009\n" ∷ "12000300000007\n" ∷ "1200040000000F\n"
    ∷ "13000000010000\n" ∷ "13000100010001\n" ∷ "13000200010002\n" ∷ "13000300010003\n" ∷ "13000400010004\n"
    ∷ "1F0005\n" ∷ [])
    -- [P3] Network A, M 2, D 4: delay 11; roots 0, 1, 3 and 4.
    ∷ row (typed "01000000020004\n" ++ A)
    ("110000000B0004\n"
    ∷ "12000000000001\n" ∷ "12000100000002\n" ∷ "12000200000008\n" ∷ "12000300000003\n" ∷ "1200040000000B\n"
    ∷ "13000000010000\n" ∷ "13000100010001\n" ∷ "130003000200010003\n" ∷ "130004000200020004\n"
    ∷ "1F0005\n" ∷ [])
    -- [P4] Network A, M 4, D 4: delay 9; roots 3 and 4.
    ∷ row (typed "01000000040004\n" ++ A)
    ("11000000090002\n"
    ∷ "12000000000001\n" ∷ "12000100000002\n" ∷ "12000200000005\n" ∷ "12000300000003\n" ∷ "12000400000009\n"
    ∷ "130003000200010003\n" ∷ "13000400040000000100020004\n"
    ∷ "1F0005\n" ∷ [])
    -- [P5] Network A, M 5, D 4: delay 7; root 4 alone.
    ∷ row (typed "01000000050004\n" ++ A)
    ("11000000070001\n"
    ∷ "12000000000001\n" ∷ "12000100000002\n" ∷ "12000200000005\n" ∷ "12000300000003\n" ∷ "12000400000007\n"
    ∷ "130004000500000001000200030004\n"
    ∷ "1F0005\n" ∷ [])
    -- [P6] Network A, M 1, D 0: delay 7; every gate is a root.
    ∷ row (typed "01000000010000\n" ++ A)
    ("11000000070005\n"
    ∷ "12000000000001\n" ∷ "12000100000002\n" ∷ "12000200000005\n" ∷ "12000300000003\n" ∷ "12000400000007\n"
    ∷ "13000000010000\n" ∷ "13000100010001\n" ∷ "13000200010002\n" ∷ "13000300010003\n" ∷ "13000400010004\n"
    ∷ "1F0005\n" ∷ [])
    -- [P7] Network A, M 0, D 4: refusal 9, line 2, column 0.
    ∷ row (typed "01000000000004\n" ++ A) ("1E0900020000\n" ∷ [])
    -- [P8] One gate, its weight and delay, M and D all 0: delay 0; root 0.
    ∷ row (typed "01000000000000\n020000000000\n0F0001\n")
    ("11000000000001\n" ∷ "12000000000000\n" ∷ "13000000010000\n" ∷ "1F0001\n" ∷ [])
    -- [P9] A chain of gates 0, 1 and 2 of weight 1 and delay 0, M 2, D 1: delay 1; roots 0 and 2, and 2 holds 1 and 2.
    ∷ row (typed "01000000020001\n020001000000\n0200010000010000\n0200010000010001\n0F0003\n")
    ("11000000010002\n"
    ∷ "12000000000000\n" ∷ "12000100000000\n" ∷ "12000200000001\n"
    ∷ "13000000010000\n" ∷ "130002000200010002\n"
    ∷ "1F0003\n" ∷ [])
    -- [P10] The empty text: refusal 3, line 1, column 0.
    ∷ row (typed "") ("1E0300010000\n" ∷ [])
    -- [P11] No gates, and an end that counts none: refusal 8, line 2, column 0.
    ∷ row (typed "01000000030004\n0F0000\n") ("1E0800020000\n" ∷ [])
    -- [P12] No gates, and an end that counts one: refusal 7, line 2, column 0.
    ∷ row (typed "01000000030004\n0F0001\n") ("1E0700020000\n" ∷ [])
    -- [P13] A gate that is its own fan-in: refusal 6, line 2, column 0.
    ∷ row (typed "01000000030004\n0200000000010000\n0F0001\n") ("1E0600020000\n" ∷ [])
    -- [P14] A bad digit at the end of the header: refusal 21, line 1, column 14.
    ∷ row (typed "0100000003000g\n" ++ A) ("1E150001000E\n" ∷ [])
    -- [P15] Two bad digits in line 3, told at the first: refusal 21, line 3, column 12.
    ∷ row
    (typed "01000000030004\n020001000100\n02000100020x0y\n02000100030200000001\n0200010001010001\n02000100020200020003\n0F0005\n")
    ("1E150003000C\n" ∷ [])
    -- [P16] A carriage return behind line 2: refusal 21, line 2, column 13.
    ∷ row
    (typed "01000000030004\n020001000100\r\n020001000200\n02000100030200000001\n0200010001010001\n02000100020200020003\n0F0005\n")
    ("1E150002000D\n" ∷ [])
    -- [P17] One digit less in line 4: refusal 22, line 4, column 0.
    ∷ row
    (typed "01000000030004\n020001000100\n020001000200\n0200010003020000001\n0200010001010001\n02000100020200020003\n0F0005\n")
    ("1E1600040000\n" ∷ [])
    -- [P18] An empty line behind line 2: refusal 23, line 3, column 0.
    ∷ row
    (typed "01000000030004\n020001000100\n\n020001000200\n02000100030200000001\n0200010001010001\n02000100020200020003\n0F0005\n")
    ("1E1700030000\n" ∷ [])
    -- [P19] A lone line feed: refusal 23, line 1, column 0.
    ∷ row (typed "\n") ("1E1700010000\n" ∷ [])
    -- [P20] No line feed at the end: refusal 24, line 7, column 0.
    ∷ row
    (typed "01000000030004\n020001000100\n020001000200\n02000100030200000001\n0200010001010001\n02000100020200020003\n0F0005")
    ("1E1800070000\n" ∷ [])
    -- [P21] One digit, not ended: 22 before 24, line 1, column 0.
    ∷ row (typed "0") ("1E1600010000\n" ∷ [])
    -- [P22] One bad digit, not ended: 21 before 22 and 24, line 1, column 1.
    ∷ row (typed "x") ("1E1500010001\n" ∷ [])
    -- [P23] An unknown type, not ended: 24 before 3, line 2, column 0.
    ∷ row (typed "01000000030004\nFF") ("1E1800020000\n" ∷ [])
    -- [P24] An unknown type and a bad digit: 21 before 3, line 2, column 4.
    ∷ row (typed "01000000030004\nFFFg\n") ("1E1500020004\n" ∷ [])
    ∷ []

-- Each text of the table answers its lines, and no others.
abbrev pub Worked : Type 0
Worked = map (λ r. answer_lines r.text) rows ≡ map (λ r. r.printed) rows
