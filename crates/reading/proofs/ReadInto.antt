-- What the two passes and the test of the row come to: the record of specs/ReadInto.antt, answer by answer.
use Prim.Native.Nat.{ℕ}
use Rattle.std.specs.Prelude.{Result, Ok, Err}
use mathlib.Core.Path.{◌≡◌, refl, sym, ap, ◌∙◌}
use mathlib.Core.Bool.{Bool, true, false}
use mathlib.Core.List.{List}
use Rattle.model.specs.Network.{Network, size}
use Rattle.frames.specs.declared.Refusal.{Refusal}
use Rattle.frames.specs.Refusal.{no_room}
use Rattle.texts.specs.Reading.{Reading, refused, network, reading}
use Rattle.frames.proofs.Tests.{never}
use Rattle.rows.specs.declared.Header.{Header}
use Rattle.rows.specs.Row.{too_short}
use Rattle.rows.specs.Read.{shown, in_room, answer, filled}
use Rattle.reading.specs.steps.Passes.{FitsInto}
use Rattle.reading.specs.ReadInto.{ReadInto}

-- `reading` answers as `shown` says of the text alone.
module _ (text row : List ℕ) {r : Result Header Refusal} (seen : r ≡ shown (reading text)) where
  pub refused_into : {f : Refusal} → r ≡ Err f → ReadInto text row row (Err f)
  unfolding shown answer in_room filled
  refused_into {f = f} is = go (reading text) refl
    where
      go : (w : Reading) → reading text ≡ w → ReadInto text row row (Err f)
      go (refused g) e = record { result = rw e (sym is ∙ seen ∙ ap shown e); row = rw e }
      go (network n) e = let z = sym is ∙ seen ∙ ap shown e in never cc

  module _ (header : Header) (is : r ≡ Ok header) {short : Bool} (test : short ≡ too_short header.gates row) where
    -- the network that was read
    record Found : Type 0 where
      whole : Network
      reads : reading text ≡ network whole
      sized : size whole ≡ header.gates

    found : Found
    unfolding shown
    found = go (reading text) refl
      where
        go : (w : Reading) → reading text ≡ w → Found
        go (refused f) e = let z = sym is ∙ seen ∙ ap shown e in never cc
        go (network n) e =
            let z = sym is ∙ seen ∙ ap shown e in
            record { whole = n; reads = e; sized = cc }

    pub short_into : short ≡ true → ReadInto text row row (Err no_room)
    unfolding shown answer in_room filled
    short_into t =
        let n = found in
        let short : too_short (size n.whole) row ≡ true = rw n.sized (sym test ∙ t) in
        record { result = rw (n.reads, short); row = rw (n.reads, short) }

    module _ (enough : short ≡ false) where
      pub fits_into : FitsInto text row
      fits_into = let f = found in record { whole = f.whole; reads = f.reads; room = rw f.sized (sym test ∙ enough) }

      answered : answer text row ≡ reading text
      unfolding answer in_room
      answered =
          let f = fits_into in
          rw (f.reads, f.room)

      pub filled_into : {after : List ℕ} → after ≡ filled (reading text) row → ReadInto text row after (Ok header)
      filled_into e =
          record { result = sym is ∙ seen ∙ ap shown (sym answered); row = e ∙ ap (λ w. filled w row) (sym answered) }
