-- [F1] Texts as they are typed.
use Rattle.std.specs.Prelude.{ℕ, List, [], ◌∷◌}
use Prim.Native.Char.{code}
use Prim.Native.String.{String, [] as end, ◌∷◌ as ◌then◌}

-- the bytes of a text, one a character
unfoldable pub typed : String → List ℕ
typed end = []
typed (c then s) = code c ∷ typed s
