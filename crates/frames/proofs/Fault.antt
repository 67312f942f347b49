-- Laws of specs/Fault.antt: the computed `fault` and the relation agree; a number of the frame is the lowest of those whose
-- rows hold, since these rows stand by rising number; and 23 stands alone.
use Prim.Native.Nat.{ℕ, suc, ◌≤◌, ◌<◌}
use mathlib.Core.Path.{◌≡◌, refl, sym, ◌∙◌, ap}
use mathlib.Core.Logic.{◌↔◌, ◌⊎◌, inl, inr, ⊎_elim}
use mathlib.Core.Bool.{Bool, true, false, cond, ◌&&◌}
use mathlib.Core.List.{List, [], ◌∷◌, ◌++◌, map, Memᴰ}
use mathlib.Core.Option.{Option, none, some}
use native.Mathlib.Omega.{arith}
use borrow.Author.Tests.{leb-true, ltb-true}
use lib.Dec.{leb, ltb, eqb}
use Rattle.model.specs.Basics.{◌∈◌, member}
use Rattle.model.proofs.Lists.{member_true, ∈-subst}
use Rattle.frames.specs.declared.Place.{Place}
use Rattle.frames.specs.Text.{Line, line_feed, begin, lines, all_digits, even}
use Rattle.frames.specs.Table.{Row, none_there, empty, bad_digit, odd, unended, form_rows, frame_rows, table, first_given, fault}
use Rattle.frames.specs.Fault.{GivenBy, FaultlessBy, Rises, LowestBy, Lowest, Given, Faultless, EmptyAlone}
use Rattle.frames.specs.steps.Cut.{form_fault}
use Rattle.frames.proofs.Tests.{never, both_true}

-- Rising numbers, as a test that antt computes: the first is at least b.
rises : ℕ → List Row → Bool
rises b [] = true
rises b (r ∷ rs) = leb b r.number && rises (suc r.number) rs

rises_split : (b : ℕ) (r : Row) (rs : List Row) → rises b (r ∷ rs) ≡ true → (b ≤ r.number) × (rises (suc r.number) rs ≡ true)
unfolding rises
rises_split b r rs up =
    let both = both_true (leb b r.number) (rises (suc r.number) rs) up in
    (leb-true b r.number both.0, both.1)

at_least : {s : Row} {rs : List Row} → Memᴰ s rs → (b : ℕ) → rises b rs ≡ true → b ≤ s.number
at_least (mathlib.Core.List.Memᴰ.head {x = r} {xs = rs} e) b up = omega (arith, (rises_split b r rs up).0, ap (λ (q : Row). q.number) e)
at_least (mathlib.Core.List.Memᴰ.tail {x = r} {xs = rs} m) b up =
    let split = rises_split b r rs up in
    let above = at_least m (suc r.number) split.1 in
    omega arith

rises_behind : (before : List Row) (b : ℕ) (row : Row) (after : List Row) → rises b (before ++ (row ∷ after)) ≡ true
    → rises (suc row.number) after ≡ true
rises_behind [] b row after up = (rises_split b row after up).1
rises_behind (r ∷ before) b row after up =
    rises_behind before (suc r.number) row after (rises_split b r (before ++ (row ∷ after)) up).1

rises_all : (b : ℕ) (rows : List Row) → rises b rows ≡ true → Rises rows
rises_all b rows up =
    record {
      below = λ before row after is r m. at_least m (suc row.number) (rises_behind before b row after (rw is at up));
    }

pub frame_rows_rise : Rises frame_rows
unfolding frame_rows rises
frame_rows_rise = rises_all 3 frame_rows refl

-- Where the rows rise, no row of a lower number holds than the one given: those in front are clear, those behind are higher.
lowest_by : {rows : List Row} {k : ℕ} {p : Place} {l : Line} → Rises rows → GivenBy rows k p l → LowestBy rows k p l
lowest_by up g =
    record {
      clear =
          λ r m less.
          ⊎_elim (λ (front : Memᴰ r g.before). g.clear r front)
          (λ (rest : Memᴰ r (g.row ∷ g.after)).
          absurd
          (⊎_elim (λ (e : r ≡ g.row). omega (arith, ap (λ (q : Row). q.number) e, g.numbered))
          (λ (later : Memᴰ r g.after).
          omega (arith, up.below g.before g.row g.after g.listed r later, g.numbered))
          (mathlib.Core.List.Memᴰ.cases_cons rest)))
          (mathlib.Core.List.Memᴰ.append_cases g.before (rw g.listed at m));
    }

-- The number that is given is that of a row.
numbers : List Row → List ℕ
numbers rows = map (λ (r : Row). r.number) rows

number_listed : {r : Row} {rows : List Row} → Memᴰ r rows → r.number ∈ numbers rows
unfolding numbers
number_listed (mathlib.Core.List.Memᴰ.head e) = mathlib.Core.List.Memᴰ.head (ap (λ (r : Row). r.number) e)
number_listed (mathlib.Core.List.Memᴰ.tail m) = mathlib.Core.List.Memᴰ.tail (number_listed m)

given_listed : {rows : List Row} {k : ℕ} {p : Place} {l : Line} → GivenBy rows k p l → k ∈ numbers rows
given_listed {rows} g =
    let here : Memᴰ g.row rows = rw g.listed (mathlib.Core.List.Memᴰ.append_right g.before (mathlib.Core.List.Memᴰ.head refl)) in
    ∈-subst g.numbered (number_listed here)

-- A test that antt computes of every number of a list holds of each.
unfoldable pub passes : (ℕ → Bool) → List ℕ → Bool
passes test [] = true
passes test (k ∷ ks) = test k && passes test ks

pub passed_by : (test : ℕ → Bool) {k : ℕ} {ks : List ℕ} → k ∈ ks → passes test ks ≡ true → test k ≡ true
unfolding passes
passed_by test (mathlib.Core.List.Memᴰ.head {x = j} {xs = ks} e) all = rw e (both_true (test j) (passes test ks) all).0
passed_by test (mathlib.Core.List.Memᴰ.tail {x = j} {xs = ks} m) all = passed_by test m (both_true (test j) (passes test ks) all).1

-- Every number of a list is one of another.
pub among : {k : ℕ} (ks js : List ℕ) → k ∈ ks → passes (λ j. member j js) ks ≡ true → k ∈ js
among {k} ks js m all = member_true k js (passed_by (λ j. member j js) m all)

-- the number of a row that holds, before all others
first_yes : (r : Row) (rs : List Row) (p : Place) (l : Line) → r.given p l ≡ true → first_given (r ∷ rs) p l ≡ some r.number
unfolding first_given
first_yes r rs p l h = rw h

first_no : (r : Row) (rs : List Row) (p : Place) (l : Line) → r.given p l ≡ false → first_given (r ∷ rs) p l ≡ first_given rs p l
unfolding first_given
first_no r rs p l h = rw h

module _ (p : Place) (l : Line) where
  given_here : (k : ℕ) (r : Row) (rs : List Row) → r.number ≡ k → r.given p l ≡ true → GivenBy (r ∷ rs) k p l
  given_here k r rs is t =
      record {
        before = [];
        row = r;
        after = rs;
        listed = refl;
        numbered = is;
        holds = t;
        clear = λ s m. absurd (mathlib.Core.List.Memᴰ.not-nil m);
      }

  -- a row in front that does not hold changes nothing
  given_later : (k : ℕ) (r : Row) (rs : List Row) → r.given p l ≡ false → GivenBy rs k p l → GivenBy (r ∷ rs) k p l
  given_later k r rs f g =
      record {
        before = r ∷ g.before;
        row = g.row;
        after = g.after;
        listed = ap (λ (qs : List Row). r ∷ qs) g.listed;
        numbered = g.numbered;
        holds = g.holds;
        clear =
            λ s m.
            ⊎_elim (λ (e : s ≡ r). rw e f) (λ (m' : Memᴰ s g.before). g.clear s m') (mathlib.Core.List.Memᴰ.cases_cons m);
      }

  first_some : (k : ℕ) (rs : List Row) → first_given rs p l ≡ some k → GivenBy rs k p l
  unfolding first_given
  first_some k [] h = never cc
  first_some k (r ∷ rs) h = go (r.given p l) refl (first_some k rs)
    where
      go : (t : Bool) → r.given p l ≡ t → (first_given rs p l ≡ some k → GivenBy rs k p l) → GivenBy (r ∷ rs) k p l
      go true t later = given_here k r rs (cc (first_yes r rs p l t)) t
      go false t later = given_later k r rs t (later (sym (first_no r rs p l t) ∙ h))

  -- rows that do not hold are passed over
  first_behind : (before rest : List Row) → ((r : Row) → Memᴰ r before → r.given p l ≡ false)
      → first_given (before ++ rest) p l ≡ first_given rest p l
  first_behind [] rest clear = refl
  first_behind (r ∷ before) rest clear =
      first_no r (before ++ rest) p l (clear r (mathlib.Core.List.Memᴰ.head refl))
      ∙ first_behind before rest (λ s m. clear s (mathlib.Core.List.Memᴰ.tail m))

  some_first : (k : ℕ) (rs : List Row) → GivenBy rs k p l → first_given rs p l ≡ some k
  some_first k rs g =
      ap (λ (qs : List Row). first_given qs p l) g.listed
      ∙ first_behind g.before (g.row ∷ g.after) g.clear
      ∙ first_yes g.row g.after p l g.holds
      ∙ ap {B = Option ℕ} some g.numbered

  first_none : (rs : List Row) → first_given rs p l ≡ none → FaultlessBy rs p l
  first_none [] h = record { clear = λ r m. absurd (mathlib.Core.List.Memᴰ.not-nil m) }
  first_none (r ∷ rs) h = go (r.given p l) refl (first_none rs)
    where
      go : (t : Bool) → r.given p l ≡ t → (first_given rs p l ≡ none → FaultlessBy rs p l) → FaultlessBy (r ∷ rs) p l
      go true t later = never (cc (first_yes r rs p l t))
      go false t later =
          let rest = later (sym (first_no r rs p l t) ∙ h) in
          record {
            clear =
                λ s m.
                ⊎_elim (λ (e : s ≡ r). rw e t) (λ (m' : Memᴰ s rs). rest.clear s m') (mathlib.Core.List.Memᴰ.cases_cons m);
          }

  none_first : (rs : List Row) → FaultlessBy rs p l → first_given rs p l ≡ none
  unfolding first_given
  none_first [] c = refl
  none_first (r ∷ rs) c =
      first_no r rs p l (c.clear r (mathlib.Core.List.Memᴰ.head refl))
      ∙ none_first rs (record { clear = λ s m. c.clear s (mathlib.Core.List.Memᴰ.tail m) })

-- A line is given number k exactly when the table says so, and none exactly when no row of the table holds.

pub fault_given : (k : ℕ) (p : Place) (l : Line) → (fault p l ≡ some k) ↔ Given k p l
unfolding fault
fault_given k p l = (first_some p l k table, some_first p l k table)

pub fault_none : (p : Place) (l : Line) → (fault p l ≡ none) ↔ Faultless p l
unfolding fault
fault_none p l = (first_none p l table, none_first p l table)

-- Which numbers the table has.
pub given_number : {k : ℕ} {p : Place} {l : Line} → Given k p l → k ∈ (23 ∷ 21 ∷ 22 ∷ 24 ∷ 3 ∷ 4 ∷ 5 ∷ 6 ∷ 7 ∷ 8 ∷ [])
unfolding table numbers
given_number g = given_listed g

form_number : {k : ℕ} {p : Place} {l : Line} → GivenBy form_rows k p l → 21 ≤ k
unfolding form_rows numbers passes
form_number {k} g = leb-true 21 k (passed_by (leb 21) (given_listed g) refl)

frame_number : {k : ℕ} {p : Place} {l : Line} → GivenBy frame_rows k p l → k < 21
unfolding frame_rows numbers passes
frame_number {k} g = ltb-true k 21 (passed_by (λ j. ltb j 21) (given_listed g) refl)

-- The table is the rows of the form, and where none of them holds those of the frame.
unfoldable pub or_else : Option ℕ → Option ℕ → Option ℕ
or_else none o = o
or_else (some k) o = some k

first_append : (p : Place) (l : Line) (rs qs : List Row) → first_given (rs ++ qs) p l ≡ or_else (first_given rs p l) (first_given qs p l)
unfolding first_given or_else
first_append p l [] qs = refl
first_append p l (r ∷ rs) qs = go (r.given p l) (first_append p l rs qs)
  where
    go : (t : Bool) → first_given (rs ++ qs) p l ≡ or_else (first_given rs p l) (first_given qs p l)
        → cond t (some r.number) (first_given (rs ++ qs) p l) ≡ or_else (cond t (some r.number) (first_given rs p l)) (first_given qs p l)
    go true e = refl
    go false e = e

pub form_first : (p : Place) (l : Line) → fault p l ≡ or_else (form_fault l) (first_given frame_rows p l)
unfolding fault form_fault form_rows first_given empty bad_digit odd unended table
form_first p l = first_append p l form_rows frame_rows

module _ (k : ℕ) (p : Place) (l : Line) where
  form_or_frame : Given k p l → GivenBy form_rows k p l ⊎ (FaultlessBy form_rows p l × GivenBy frame_rows k p l)
  unfolding table or_else
  form_or_frame g = go (first_given form_rows p l) refl (sym (first_append p l form_rows frame_rows) ∙ some_first p l k table g)
    where
      go : (o : Option ℕ) → first_given form_rows p l ≡ o → or_else o (first_given frame_rows p l) ≡ some k
          → GivenBy form_rows k p l ⊎ (FaultlessBy form_rows p l × GivenBy frame_rows k p l)
      go none is e = inr (first_none p l form_rows is, first_some p l k frame_rows e)
      go (some j) is e = inl (first_some p l k form_rows (is ∙ e))

  -- From 21 on the numbers are those of the form.
  pub form_given : 21 ≤ k → Given k p l ↔ (form_fault l ≡ some k)
  unfolding form_fault form_rows first_given empty bad_digit odd unended table or_else
  form_given more = (
    λ g. ⊎_elim (λ f. some_first p l k form_rows f) (λ (clear, f). absurd (omega (arith, frame_number f))) (form_or_frame g),
    λ e. first_some p l k table (first_append p l form_rows frame_rows ∙ rw e),
  )

  pub given_lowest : Given k p l → k < 21 → Lowest k p l
  given_lowest g less =
      ⊎_elim (λ f. absurd (omega (arith, form_number f))) (λ (clear, f). record { form = clear; frame = lowest_by frame_rows_rise f }) (form_or_frame g)

-- A line of a text has digits, or is ended.
ended_empty : (text : List ℕ) (l : Line) → Memᴰ l (lines text) → l.digits ≡ [] → l.ended ≡ true
unfolding lines begin
ended_empty [] l m e = absurd (mathlib.Core.List.Memᴰ.not-nil m)
ended_empty (b ∷ bs) l m e = go (eqb b line_feed) (ended_empty bs l) m
  where
    front : (ls : List Line) → (Memᴰ l ls → l.digits ≡ [] → l.ended ≡ true) → Memᴰ l (begin b ls) → l.ended ≡ true
    front [] later m = let q = mathlib.Core.List.Memᴰ.eq_of_singleton m in never (cc (ap (λ (k : Line). k.digits) q))
    front (k ∷ ls) later m =
        ⊎_elim (λ (q : l ≡ _). never (cc (ap (λ (k : Line). k.digits) q))) (λ (m' : Memᴰ l ls). later (mathlib.Core.List.Memᴰ.tail m') e) (mathlib.Core.List.Memᴰ.cases_cons m)

    go : (t : Bool) → (Memᴰ l (lines bs) → l.digits ≡ [] → l.ended ≡ true)
        → Memᴰ l (cond t (record { digits = []; ended = true } ∷ lines bs) (begin b (lines bs))) → l.ended ≡ true
    go true later m =
        ⊎_elim (λ (q : l ≡ _). ap (λ (k : Line). k.ended) q) (λ (m' : Memᴰ l (lines bs)). later m' e) (mathlib.Core.List.Memᴰ.cases_cons m)
    go false later m = front (lines bs) later m

pub empty_alone : EmptyAlone
unfolding empty bad_digit odd unended none_there
empty_alone text p l m t =
    let none_left : l.digits ≡ [] = nothing l.digits t in
    (rw none_left (unfold all_digits in refl), rw none_left (unfold even in refl), rw (ended_empty text l m none_left))
  where
    nothing : (ds : List ℕ) → none_there ds ≡ true → ds ≡ []
    nothing [] t = refl
    nothing (d ∷ ds) t = never cc
