-- What bytes say, and how it is written: lines and fields, numbers in decimal, hashes in hex, lists of hashes, clocks. A byte is a number below 256.
-- Assumes nothing.
use Rattle.std.specs.Prelude.{Bool, true, false, cond, not, ◌&&◌, List, [], ◌∷◌, ◌++◌, map, ℕ, zero, suc, ◌+◌, ◌-◌, ◌*◌, ◌/◌, ◌%◌, ◌^◌, eqb, leb, ltb, length}
use Rattle.std.proofs.Math.Option.{Option, none, some}
use Rattle.paper.specs.Lists.{same_list}

-- ---- parts: lines by LF, fields by tabs, the members of a list by commas

-- b as the first byte of the first part
unfoldable pub grow : ℕ → List (List ℕ) → List (List ℕ)
grow b [] = []
grow b (p ∷ ps) = (b ∷ p) ∷ ps

-- the parts between the bytes that are sep: one more than there are such bytes
unfoldable pub parted : ℕ → List ℕ → List (List ℕ)
parted sep [] = [] ∷ []
parted sep (b ∷ bs) = cond (eqb b sep) ([] ∷ parted sep bs) (grow b (parted sep bs))

-- all bytes of some lists, one list after the other
unfoldable pub flat : List (List ℕ) → List ℕ
flat [] = []
flat (h ∷ hs) = h ++ flat hs

-- ---- numbers

-- 48 to 57, the digits 0 to 9
unfoldable pub is_digit : ℕ → Bool
is_digit b = leb 48 b && leb b 57

unfoldable pub all_digits : List ℕ → Bool
all_digits [] = true
all_digits (b ∷ bs) = is_digit b && all_digits bs

-- the number v with further digits written after it
unfoldable pub value_from : ℕ → List ℕ → ℕ
value_from v [] = v
value_from v (b ∷ bs) = value_from (v * 10 + (b - 48)) bs

-- something is written, and it does not start with a 0 that is not all of it
unfoldable pub unpadded : List ℕ → Bool
unpadded [] = false
unpadded (b ∷ []) = true
unpadded (b ∷ c ∷ bs) = not (eqb b 48)

-- v with further digits, where they are digits and the whole is below 2 ^ 64
unfoldable pub digits_after : ℕ → List ℕ → Option ℕ
digits_after v bs = cond (all_digits bs && ltb (value_from v bs) (2 ^ 64)) (some (value_from v bs)) none

-- the number that some bytes write: decimal digits with no leading 0, below 2 ^ 64
unfoldable pub decimal_of : List ℕ → Option ℕ
decimal_of bs = cond (unpadded bs) (digits_after 0 bs) none

-- the digits of v, for v below `fuel`: those of v / 10, and the last one
unfoldable pub digits_by : ℕ → ℕ → List ℕ
digits_by zero v = []
digits_by (suc fuel) v = cond (ltb v 10) ((48 + v) ∷ []) (digits_by fuel (v / 10) ++ ((48 + v % 10) ∷ []))

-- the decimal digits of v as bytes, the first digit first
unfoldable pub digits_of : ℕ → List ℕ
digits_of v = digits_by (suc v) v

-- ---- hashes

-- the value of a hex digit, 0 to 9 or a to f, and 16 for any other byte
unfoldable pub hex_value : ℕ → ℕ
hex_value b = cond (leb 48 b && leb b 57) (b - 48) (cond (leb 97 b && leb b 102) (b - 87) 16)

unfoldable pub all_hex : List ℕ → Bool
all_hex [] = true
all_hex (b ∷ bs) = ltb (hex_value b) 16 && all_hex bs

-- 64 hex digits
unfoldable pub is_hash : List ℕ → Bool
is_hash bs = eqb (length bs) 64 && all_hex bs

-- the bytes that hex digits write, two digits a byte
unfoldable pub bytes_of : List ℕ → List ℕ
bytes_of [] = []
bytes_of (b ∷ []) = []
bytes_of (b ∷ c ∷ bs) = (16 * hex_value b + hex_value c) ∷ bytes_of bs

-- the hash that some bytes write: 64 hex digits, and its 32 bytes
unfoldable pub hash_of : List ℕ → Option (List ℕ)
hash_of bs = cond (is_hash bs) (some (bytes_of bs)) none

-- 0 to 9 and a to f
unfoldable pub hex_digit : ℕ → ℕ
hex_digit d = cond (ltb d 10) (48 + d) (87 + d)

-- some bytes in hex, two digits for each
unfoldable pub hex_of : List ℕ → List ℕ
hex_of [] = []
hex_of (b ∷ bs) = hex_digit (b / 16) ∷ hex_digit (b % 16) ∷ hex_of bs

-- ---- lists of hashes, and clocks

-- h before hs, where both are given
unfoldable pub before : Option (List ℕ) → Option (List (List ℕ)) → Option (List (List ℕ))
before none hs = none
before (some h) none = none
before (some h) (some hs) = some (h ∷ hs)

-- the hashes that some members write, all or none
unfoldable pub hashes_of_members : List (List ℕ) → Option (List (List ℕ))
hashes_of_members [] = some []
hashes_of_members (m ∷ ms) = before (hash_of m) (hashes_of_members ms)

-- the list that some bytes write: `-` for none, else hashes joined by commas
unfoldable pub list_of : List ℕ → Option (List (List ℕ))
list_of bs = cond (same_list bs (45 ∷ [])) (some []) (hashes_of_members (parted 44 bs))

-- texts, each after a comma
unfoldable pub commas : List (List ℕ) → List ℕ
commas [] = []
commas (t ∷ ts) = 44 ∷ (t ++ commas ts)

-- texts joined by commas
unfoldable pub comma_joined : List (List ℕ) → List ℕ
comma_joined [] = []
comma_joined (t ∷ ts) = t ++ commas ts

-- a clock: its entries joined by commas
unfoldable pub clock_text : List ℕ → List ℕ
clock_text clock = comma_joined (map digits_of clock)

-- some hashes in hex joined by commas, `-` for none
unfoldable pub list_text : List (List ℕ) → List ℕ
list_text [] = 45 ∷ []
list_text (h ∷ hs) = comma_joined (map hex_of (h ∷ hs))

-- ---- reading the fields of a line one after the other

module _ {A R : Type 0} (wrong : R) where
  -- what is made of a value, where there is one
  unfoldable pub given : Option A → (A → R) → R
  given none k = wrong
  given (some v) k = k v

  -- the next field as `read` reads it, and what is made of it and of the fields left
  unfoldable pub next : (List ℕ → Option A) → List (List ℕ) → (A → List (List ℕ) → R) → R
  next read [] k = wrong
  next read (f ∷ fs) k = given (read f) (λ v. k v fs)

-- no field is left
unfoldable pub last : {R : Type 0} → R → List (List ℕ) → R → R
last wrong [] r = r
last wrong (f ∷ fs) r = wrong
