-- What an accepted text is: lines without fault, which are the lines that the network spells.
use Prim.Native.Nat.{ℕ, zero, suc, ◌+◌, ◌≤◌, ◌<◌}
use mathlib.Core.Path.{◌≡◌, refl, sym, ◌∙◌, ap}
use mathlib.Core.Logic.{⊎_elim}
use mathlib.Core.Bool.{true, false}
use mathlib.Core.List.{List, [], ◌∷◌, ◌++◌, map, append_assoc, append-nil}
use mathlib.Core.Option.{Option, none, some}
use native.Mathlib.Omega.{arith}
use borrow.Author.Tests.{ltb-false}
use lib.ListN.{length}
use lib.Dec.{ltb, eqb}
use Rattle.model.specs.Network.{Gate, Network, size}
use Rattle.model.specs.Ceilings.{most_capacity, most_hop}
use Rattle.model.proofs.Lists.{true_or_false}
use Rattle.frames.specs.Text.{Line, lines}
use Rattle.frames.specs.declared.Place.TheVariants.{Opening, AfterGates, Closed}
use Rattle.frames.specs.Table.{kind, fault, gate_of}
use Rattle.frames.specs.Refusal.{at_no_line}
use Rattle.texts.specs.Reading.{Reading, refused, network, nothing_read, with_header, with_gate, unless, walk, first_heavy, told_heavy, weigh, reading, most_text}
use Rattle.frames.specs.Digits.{spell_line}
use Rattle.texts.specs.Spelling.{header_bytes, gate_bytes, end_bytes, join, spell_network}
use Rattle.frames.proofs.Tests.{never, picked}
use Rattle.texts.proofs.Lines.{AllEnded, line_text, text_of_lines}
use Rattle.texts.proofs.Faultless.{Fit, HeaderLine, header_line, GateLine, gate_line, EndLine, end_line, closed_line}

-- every gate of a list fits, the first at v
abbrev pub AllFit : ℕ → List Gate → Type 0
AllFit v [] = Unit {0}
AllFit v (g ∷ gs) = Fit v g × AllFit (suc v) gs

-- the line of a gate
abbrev pub gate_text : Gate → List ℕ
gate_text g = spell_line (gate_bytes g (length g.fanins))

pub unless_network : (o : Option ℕ) (at : ℕ) (l : Line) (r : Reading) (m : Network) → unless o at l r ≡ network m → (o ≡ none) × (r ≡ network m)
unfolding unless
unless_network none at l r m e = (refl, e)
unless_network (some k) at l r m e = never cc

-- nothing stands behind the end
pub walk_closed : (at : ℕ) (n m : Network) (ls : List Line) → walk Closed at n ls ≡ network m → (ls ≡ []) × (n ≡ m)
unfolding walk
walk_closed at n m [] e = (refl, cc)
walk_closed at n m (l ∷ ls) e = absurd (closed_line l (unless_network (fault Closed l) at l _ m e).0)

-- what the walk over gate lines and the end collects
pub record Gates (v : ℕ) (n m : Network) (ls : List Line) : Type 0 where
  pub rest : List Gate
  capacity : m.capacity ≡ n.capacity
  hop : m.hop ≡ n.hop
  pub gates : m.gates ≡ n.gates ++ rest
  some_gate : 0 < v + length rest
  fit : AllFit v rest
  ended : AllEnded ls
  again : join (map line_text ls) ≡ join (map gate_text rest) ++ spell_line (end_bytes (v + length rest))

one_more : (v : ℕ) (n m : Network) (l : Line) (ls : List Line) → GateLine v l → Gates (suc v) (with_gate n l) m ls → Gates v n m (l ∷ ls)
unfolding with_gate join
one_more v n m l ls g r =
    let c : suc v + length r.rest ≡ v + suc (length r.rest) = omega arith in
    record {
      rest = gate_of l ∷ r.rest;
      capacity = r.capacity;
      hop = r.hop;
      gates = r.gates ∙ append_assoc n.gates (gate_of l ∷ []) r.rest;
      some_gate = omega arith;
      fit = (g.fit, r.fit);
      ended = (g.ended, r.ended);
      again =
          rw (← g.again, r.again, c)
          (sym
          (append_assoc (gate_text (gate_of l)) (join (map gate_text r.rest))
          (spell_line (end_bytes (v + suc (length r.rest))))));
    }

the_end : (v : ℕ) (n m : Network) (l : Line) (ls : List Line) → EndLine v l → ls ≡ [] → n ≡ m → Gates v n m (l ∷ ls)
unfolding join
the_end v n m l ls g e f =
    let c : v + zero ≡ v = omega arith in
    record {
      rest = [];
      capacity = rw f refl;
      hop = rw f refl;
      gates = rw f (sym (append-nil m.gates));
      some_gate = omega (arith, g.some_gate);
      fit = tt;
      ended = rw e (g.ended, tt);
      again = rw (e, c) (append-nil (line_text l) ∙ sym g.again);
    }

pub walk_gates : (ls : List Line) (v at : ℕ) (n m : Network) → walk (AfterGates v) at n ls ≡ network m → Gates v n m ls
unfolding walk
walk_gates [] v at n m e = never cc
walk_gates (l ∷ ls) v at n m e =
    let u = unless_network (fault (AfterGates v) l) at l _ m e in
    ⊎_elim
    (λ (t : eqb (kind l) 0x02 ≡ true).
    one_more v n m l ls (gate_line v l u.0 t) (walk_gates ls (suc v) (suc at) (with_gate n l) m (rw t at u.1)))
    (λ (t : eqb (kind l) 0x02 ≡ false).
    let c = walk_closed (suc at) n m ls (rw t at u.1) in
    the_end v n m l ls (end_line v l u.0 t) c.0 c.1)
    (true_or_false (eqb (kind l) 0x02))

-- what reading a text accepts

pub record AcceptedText (text : List ℕ) (n : Network) : Type 0 where
  pub short : length text ≤ most_text
  pub capacity : n.capacity ≤ most_capacity
  pub hop : n.hop ≤ most_hop
  pub some_gate : 0 < size n
  pub fit : AllFit 0 n.gates
  pub light : first_heavy n.capacity 2 n.gates ≡ none
  pub again : spell_network n ≡ text

join_append : (xs ys : List (List ℕ)) → join (xs ++ ys) ≡ join xs ++ join ys
unfolding join
join_append [] ys = refl
join_append (x ∷ xs) ys = rw (join_append xs ys) (sym (append_assoc x (join xs) (join ys)))

-- a first line, lines, and a last line
pub join_framed : (x : List ℕ) (ys : List (List ℕ)) (z : List ℕ) → join (x ∷ ys ++ (z ∷ [])) ≡ x ++ (join ys ++ z)
join_framed x ys z = unfold join in rw (join_append ys (z ∷ []), append-nil z)

pub network_text : (n : Network)
    → spell_network n ≡ spell_line (header_bytes n.capacity n.hop) ++ (join (map gate_text n.gates) ++ spell_line (end_bytes (size n)))
unfolding spell_network
network_text n =
    join_framed (spell_line (header_bytes n.capacity n.hop)) (map gate_text n.gates) (spell_line (end_bytes (size n)))

-- what lines without fault, the last of them the end, come to
pub record Walked (n : Network) (ls : List Line) : Type 0 where
  pub capacity : n.capacity ≤ most_capacity
  pub hop : n.hop ≤ most_hop
  pub some_gate : 0 < size n
  pub fit : AllFit 0 n.gates
  pub ended : AllEnded ls
  pub again : spell_network n ≡ join (map line_text ls)

opened : (l : Line) (ls : List Line) (m : Network) → HeaderLine l → Gates 0 (with_header nothing_read l) m ls → Walked m (l ∷ ls)
unfolding with_header nothing_read size join
opened l ls m h r =
    let c : 0 + length r.rest ≡ length r.rest = omega arith in
    record {
      capacity = omega (arith, h.capacity, r.capacity);
      hop = omega (arith, h.hop, r.hop);
      some_gate = rw r.gates (omega (arith, r.some_gate));
      fit = rw r.gates r.fit;
      ended = (h.ended, r.ended);
      again = network_text m ∙ rw (r.capacity, r.hop, r.gates, h.again, r.again, c);
    }

pub walked : (ls : List Line) (m : Network) → walk Opening 1 nothing_read ls ≡ network m → Walked m ls
unfolding walk
walked [] m e = never cc
walked (l ∷ ls) m e =
    let u = unless_network (fault Opening l) 1 l _ m e in
    opened l ls m (header_line l u.0) (walk_gates ls 0 2 (with_header nothing_read l) m u.1)

pub told_light : (o : Option ℕ) (m n : Network) → told_heavy o m ≡ network n → (o ≡ none) × (m ≡ n)
unfolding told_heavy
told_light none m n e = (refl, cc)
told_light (some at) m n e = never cc

weigh_network : (r : Reading) (n : Network) → weigh r ≡ network n → (r ≡ network n) × (first_heavy n.capacity 2 n.gates ≡ none)
unfolding weigh
weigh_network (refused f) n e = never cc
weigh_network (network m) n e =
    let t = told_light (first_heavy m.capacity 2 m.gates) m n e in (ap network t.1, rw t.1 at t.0)

-- A line without fault is ended, and is the line that its own values spell: the header's, a gate's, the end's. So walking
-- over the lines collects gates whose lines are those that were read, and the count at the end is theirs; nothing can
-- stand behind it. A text whose lines are all ended is its lines put together, so the network spells the text.
pub accepted_text : (text : List ℕ) (n : Network) → reading text ≡ network n → AcceptedText text n
unfolding reading
accepted_text text n e =
    ⊎_elim (λ t. let z = t.1 in never cc)
    (λ f.
    let s = weigh_network (walk Opening 1 nothing_read (lines text)) n f.1 in
    let w = walked (lines text) n s.0 in
    record {
      short = ltb-false most_text (length text) f.0;
      capacity = w.capacity;
      hop = w.hop;
      some_gate = w.some_gate;
      fit = w.fit;
      light = s.1;
      again = w.again ∙ text_of_lines text w.ended;
    })
    (picked (ltb most_text (length text)) (refused (at_no_line 1)) (weigh (walk Opening 1 nothing_read (lines text))) e)
