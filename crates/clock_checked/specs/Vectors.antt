-- Worked examples, computed.
-- Assumes nothing.
use Rattle.std.specs.Prelude.{◌≡◌, refl, Some, None, Ok, Err, List, [], ◌∷◌, true, false, ℕ, replicate}
use Rattle.clock.specs.Clock.{joined, covers_all}
use Rattle.clock_checked.specs.Told.{entries_left, clock_number, clock_lendable, get_told, include_told, merge_told, covers_told, isolate_told, op_told, insert_told, remove_told, after_told, before_told}
use Rattle.clock.specs.declared.Range.TheVariants.{Current, CurrentAt}
use Rattle.clock_checked.specs.declared.ClockRefusal.TheVariants.{NotValid, NoPlace, NoRoom}

-- 0 over nothing: yes, and still nothing. 0 over 5, and none over nothing: no
zero_over_nothing : include_told (5 ∷ 0 ∷ []) 2 1 (Some 0) ≡ entries_left (Ok true) (5 ∷ 0 ∷ [])
zero_over_nothing = refl

zero_over_five : include_told (5 ∷ 0 ∷ []) 2 0 (Some 0) ≡ entries_left (Ok false) (5 ∷ 0 ∷ [])
zero_over_five = refl

none_over_nothing : include_told (5 ∷ 0 ∷ []) 2 1 None ≡ entries_left (Ok false) (5 ∷ 0 ∷ [])
none_over_nothing = refl

-- the count above the entries is 1 before the place is 5
not_valid_first : clock_number (include_told (5 ∷ 0 ∷ []) 3 7 (Some 1)).answer ≡ 1
not_valid_first = refl

no_such_place : include_told (5 ∷ 0 ∷ []) 1 1 (Some 9) ≡ entries_left (Err NoPlace) (5 ∷ 0 ∷ [])
no_such_place = refl

different : clock_number (covers_told (1 ∷ 5 ∷ []) 2 (1 ∷ []) 1) ≡ 1
different = refl

full : clock_number (insert_told (7 ∷ 8 ∷ []) 2 1).answer ≡ 12
full = refl

-- ---- 64 entries may be lent, and 65 may not, whatever their count; what is lent stays

abbrev most : List ℕ
most = replicate 64 7

abbrev many : List ℕ
many = replicate 65 7

may_be_lent : clock_lendable most 64 ≡ true
may_be_lent = refl

may_not_be_lent : clock_lendable many 0 ≡ false
may_not_be_lent = refl

last_of_64 : get_told most 64 63 ≡ Ok 7
last_of_64 = refl

first_of_65 : get_told many 64 0 ≡ Err NotValid
first_of_65 = refl

full_at_64 : insert_told most 64 0 ≡ entries_left (Err NoRoom) most
full_at_64 = refl

no_65th : insert_told many 64 0 ≡ entries_left (Err NotValid) many
no_65th = refl

none_goes : remove_told many 64 0 ≡ entries_left (Err NotValid) many
none_goes = refl

not_isolated : isolate_told many 1 0 ≡ entries_left (Err NotValid) many
not_isolated = refl

not_included : include_told many 1 0 (Some 9) ≡ entries_left (Err NotValid) many
not_included = refl

not_covered : op_told many 1 0 0 ≡ Err NotValid
not_covered = refl

-- both clocks of those that are lent two
join_of_64 : merge_told most 64 most 64 ≡ entries_left (Ok tt) most
unfolding joined
join_of_64 = refl

first_too_long : merge_told many 1 most 1 ≡ entries_left (Err NotValid) many
first_too_long = refl

second_too_long : merge_told most 1 many 1 ≡ entries_left (Err NotValid) most
second_too_long = refl

compared_64 : covers_told most 64 most 64 ≡ Ok true
unfolding covers_all
compared_64 = refl

compared_first : covers_told many 1 most 1 ≡ Err NotValid
compared_first = refl

compared_second : covers_told most 1 many 1 ≡ Err NotValid
compared_second = refl

after_first : after_told Current many 1 most 1 0 0 ≡ Err NotValid
after_first = refl

after_second : after_told Current most 1 many 1 0 0 ≡ Err NotValid
after_second = refl

before_first : before_told CurrentAt many 1 most 1 0 0 ≡ Err NotValid
before_first = refl

before_second : before_told CurrentAt most 1 many 1 0 0 ≡ Err NotValid
before_second = refl
