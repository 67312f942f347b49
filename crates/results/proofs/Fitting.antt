-- Laws of the run of lines that fits a room, line by line, and of a row that has the first of them in front.
use Rattle.results.specs.Block.{block_of}
use Prim.Native.Nat.{ℕ, zero, suc, ◌+◌, ◌-◌, ◌≤◌, ◌<◌}
use mathlib.Core.Path.{◌≡◌, refl, sym, ◌∙◌, ap}
use mathlib.Core.Logic.{⊎_elim}
use mathlib.Core.List.{List, [], ◌∷◌, ◌++◌, append-nil, append_assoc}
use native.Mathlib.Omega.{arith}
use borrow.Author.Tests.{ltb-true, ltb-false}
use lib.Dec.{ltb}
use lib.ListN.{length, take, drop, length-append, length-drop, get_or-eq_default}
use lib.Seq.{take_all, take_at, drop-append-add, drop-drop, get_or-drop}
use Rattle.model.proofs.Lists.{true_or_false}
use Rattle.texts.specs.Spelling.{join}
use Rattle.frames.specs.Put.{line_at}
use Rattle.results.specs.Block.{fitting, LongestRun, in_front, lines_row}
use Rattle.results.specs.steps.Block.{if_fits, Added, Begun, Ran}

-- what is before a line, and the line

join_more : (k : ℕ) (ls : List (List ℕ)) → join (take (suc k) ls) ≡ join (take k ls) ++ line_at k ls
unfolding join line_at
join_more zero [] = refl
join_more (suc k) [] = refl
join_more zero (l ∷ ls) = append-nil l
join_more (suc k) (l ∷ ls) = rw (join_more k ls, append_assoc)

past_last : (k : ℕ) (ls : List (List ℕ)) → length ls ≤ k → line_at k ls ≡ []
unfolding line_at
past_last k ls h = get_or-eq_default ls [] h

-- a line with bytes is one of the lines
among : (k : ℕ) (ls : List (List ℕ)) → 0 < length (line_at k ls) → k < length ls
among k ls h =
    ⊎_elim (λ t. ltb-true _ _ t)
    (λ t. absurd (omega (arith, ap length (past_last k ls (ltb-false _ _ t)))))
    (true_or_false (ltb k (length ls)))

-- the run that fits

pub fitting_few : (room : ℕ) (ls : List (List ℕ)) → length (fitting room ls) ≤ length ls
unfolding fitting
fitting_few room [] = omega arith
fitting_few room (l ∷ ls) =
    ⊎_elim (λ t. rw t (omega arith)) (λ t. rw t (omega (arith, fitting_few (room - length l) ls))) (true_or_false (ltb room (length l)))

fitting_room : (k room : ℕ) (ls : List (List ℕ)) → length (join (take k (fitting room ls))) ≤ room
unfolding fitting join
fitting_room zero room ls = omega arith
fitting_room (suc k) room [] = omega arith
fitting_room (suc k) room (l ∷ ls) =
    ⊎_elim (λ t. rw t (omega arith))
    (λ t.
    rw t
    (omega (arith, length-append l (join (take k (fitting (room - length l) ls))), fitting_room k (room - length l) ls, ltb-false room (length l) t)))
    (true_or_false (ltb room (length l)))

-- The run is the longest from the front that has room.
fitting_front : (room : ℕ) (ls : List (List ℕ)) → fitting room ls ≡ take (length (fitting room ls)) ls
unfolding fitting
fitting_front room [] = refl
fitting_front room (l ∷ ls) =
    ⊎_elim (λ t. rw t) (λ t. rw t (ap (λ (run : List (List ℕ)). l ∷ run) (fitting_front (room - length l) ls))) (true_or_false (ltb room (length l)))

fitting_longest : (k room : ℕ) (ls : List (List ℕ)) → k ≤ length ls → length (join (take k ls)) ≤ room → k ≤ length (fitting room ls)
unfolding fitting join
fitting_longest zero room ls h fits = omega arith
fitting_longest (suc k) room [] h fits = absurd (omega arith)
fitting_longest (suc k) room (l ∷ ls) h fits =
    let parts = length-append l (join (take k ls)) in
    ⊎_elim (λ t. absurd (omega (arith, ltb-true room (length l) t)))
    (λ t. rw t (omega (arith, fitting_longest k (room - length l) ls (omega arith) (omega arith))))
    (true_or_false (ltb room (length l)))

pub longest_run : (room : ℕ) (ls : List (List ℕ)) → LongestRun room ls (fitting room ls)
longest_run room ls =
    let whole : take (length ls) (fitting room ls) ≡ fitting room ls = take_all (length ls) (fitting room ls) (fitting_few room ls) in
    record {
      front = fitting_front room ls;
      room_for = rw whole at (fitting_room (length ls) room ls);
      longest = λ k. fitting_longest k room ls;
    }

-- nothing has room, and nothing comes of it
none : (room : ℕ) → if_fits room [] ≡ []
unfolding if_fits
none room = ⊎_elim (λ t. rw t) (λ t. rw t) (true_or_false (ltb room 0))

-- Behind so many lines of the run the next one is in it exactly when it has room there.
fitting_at : (k room : ℕ) (ls : List (List ℕ)) → k ≤ length (fitting room ls)
    → line_at k (fitting room ls) ≡ if_fits (room - length (join (take k (fitting room ls)))) (line_at k ls)
unfolding fitting join line_at if_fits
fitting_at k room [] h = sym (none (room - length (join (take k []))))
fitting_at zero room (l ∷ ls) h = first (room - 0) (omega arith)
  where
    first : (left : ℕ) → left ≡ room → line_at 0 (fitting room (l ∷ ls)) ≡ if_fits left l
    first left e = rw e (⊎_elim (λ t. rw t) (λ t. rw t) (true_or_false (ltb room (length l))))
fitting_at (suc k) room (l ∷ ls) h =
    ⊎_elim (λ t. absurd (omega (arith, rw t at h)))
    (λ t.
    let fit = fitting (room - length l) ls in
    let less : room - length l - length (join (take k fit)) ≡ room - length (l ++ join (take k fit)) =
    omega (arith, length-append l (join (take k fit)))
    in
    rw t (fitting_at k (room - length l) ls (omega (arith, rw t at h)) ∙ ap (λ (left : ℕ). if_fits left (line_at k ls)) less))
    (true_or_false (ltb room (length l)))

-- lines that have bytes, each
abbrev pub Full : List (List ℕ) → Type 0
Full ls = (k : ℕ) → k < length ls → 0 < length (line_at k ls)

fitting_full : (room : ℕ) (ls : List (List ℕ)) → Full ls → Full (fitting room ls)
unfolding fitting line_at
fitting_full room [] full k h = absurd (omega arith)
fitting_full room (l ∷ ls) full zero h =
    ⊎_elim (λ t. absurd (omega (arith, rw t at h))) (λ t. rw t (full 0 (omega arith))) (true_or_false (ltb room (length l)))
fitting_full room (l ∷ ls) full (suc k) h =
    ⊎_elim (λ t. absurd (omega (arith, rw t at h)))
    (λ t. rw t (fitting_full (room - length l) ls (λ i less. full (suc i) (omega arith)) k (omega (arith, rw t at h))))
    (true_or_false (ltb room (length l)))

pub drop_full : (index : ℕ) (ls : List (List ℕ)) → Full ls → Full (drop index ls)
unfolding line_at
drop_full index ls full k h = rw get_or-drop (full (index + k) (omega (arith, length-drop index ls)))

pub drop_at_line : (index k : ℕ) (ls : List (List ℕ)) → line_at k (drop index ls) ≡ line_at (index + k) ls
unfolding line_at
drop_at_line index k ls = get_or-drop index ls k []

pub drop_first : (index : ℕ) (ls : List (List ℕ)) → line_at 0 (drop index ls) ≡ line_at index ls
drop_first index ls = let here : index + 0 ≡ index = omega arith in rw (drop_at_line, here)

-- a row with bytes in front, and more behind them

pub length_front : (bytes out : List ℕ) → length bytes ≤ length out → length (in_front bytes out) ≡ length out
length_front bytes out h = omega (arith, length-append bytes (drop (length bytes) out), length-drop (length bytes) out)

front_more : (bytes more out row : List ℕ) (at : ℕ) → row ≡ in_front bytes out → at ≡ length bytes
    → take at row ++ (more ++ drop (at + length more) row) ≡ in_front (bytes ++ more) out
front_more bytes more out row at e n =
    rw (e, n, take_at bytes (drop (length bytes) out) (length bytes) refl, drop-append-add, drop-drop, length-append, append_assoc)

-- So many lines of the run stand in front of the row and the next one behind them, with its bytes, 0 where there is none.
pub record Running (ls : List (List ℕ)) (out row : List ℕ) (bytes at count : ℕ) : Type 0 where
  pub few : count ≤ length (fitting (length out) ls)
  pub past : at ≡ length (join (take count (fitting (length out) ls)))
  pub next : bytes ≡ length (line_at count (fitting (length out) ls))
  pub row_is : row ≡ in_front (join (take (suc count) (fitting (length out) ls))) out

module _ (ls : List (List ℕ)) (out : List ℕ) where
  abbrev fit : List (List ℕ)
  fit = fitting (length out) ls

  pub running_starts : {first : ℕ} → Begun ls first out → Running ls out out first 0 0
  unfolding join
  running_starts b =
      record { few = omega arith; past = refl; next = b.many; row_is = rw (join_more 0 fit) b.stands }

  module _ {row : List ℕ} {bytes at count : ℕ} (r : Running ls out row bytes at count) where
    -- the bytes up to the next line and with it
    past_next : at + bytes ≡ length (join (take (suc count) fit))
    past_next = omega (arith, r.past, r.next, ap length (join_more count fit), length-append (join (take count fit)) (line_at count fit))

    pub running_room : at + bytes ≤ length out
    running_room = omega (arith, past_next, fitting_room (suc count) (length out) ls)

    pub running_kept : length row ≡ length out
    running_kept = ap length r.row_is ∙ length_front (join (take (suc count) fit)) out (fitting_room (suc count) (length out) ls)

    pub running_more : 0 < bytes → count < length fit
    running_more h = among count fit (omega (arith, r.next))

    pub running_turns : {bytes' : ℕ} {row' : List ℕ} → 0 < bytes → Added (line_at (suc count) ls) (at + bytes) row bytes' row'
        → Running ls out row' bytes' (at + bytes) (suc count)
    running_turns h a =
        let left : length row - (at + bytes) ≡ length out - length (join (take (suc count) fit)) = omega (arith, past_next, running_kept) in
        let line : if_fits (length row - (at + bytes)) (line_at (suc count) ls) ≡ line_at (suc count) fit =
        rw left (sym (fitting_at (suc count) (length out) ls (omega (arith, running_more h))))
        in
        let many = a.many ∙ ap length line in
        record {
          few = omega (arith, running_more h);
          past = past_next;
          next = many;
          row_is =
              (rw (line, many) at a.row_is)
              ∙ front_more (join (take (suc count) fit)) (line_at (suc count) fit) out row (at + bytes) r.row_is past_next
              ∙ rw (join_more (suc count) fit);
        }

    pub running_ends : Full ls → (0 < bytes → ⊥) → Ran ls out (block_of count at) row
    unfolding lines_row
    running_ends full none =
        let all : length fit ≤ count =
        ⊎_elim (λ t. absurd (none (omega (arith, r.next, fitting_full (length out) ls full count (ltb-true _ _ t))))) (λ t. ltb-false _ _ t)
        (true_or_false (ltb count (length fit)))
        in
        let many : count ≡ length fit = omega (arith, r.few) in
        let whole : take count fit ≡ fit = take_all count fit all in
        let whole' : take (suc count) fit ≡ fit = take_all (suc count) fit (omega arith) in
        record { answer = rw (← many) (ap (λ (bytes : ℕ). block_of count bytes) (r.past ∙ ap (λ (l : List (List ℕ)). length (join l)) whole)); kept = rw whole' at r.row_is }
