-- Quoted text as bytes.
-- Assumes nothing.
use mathlib.Core.List as list
use Rattle.std.specs.Prelude.{List, ℕ}
use Prim.Native.Char.{code}
use Prim.Native.String.{String, [], ◌∷◌}

-- the bytes of a text whose characters are all ASCII
unfoldable pub bytes : String → List ℕ
bytes [] = list.[]
bytes (c ∷ s) = list.◌∷◌ (code c) (bytes s)
