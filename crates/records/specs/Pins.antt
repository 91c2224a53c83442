-- The definitions at lists of the paper, computed: each refusal beside a neighbour that has none or another, and the list of configuration K.
use Rattle.std.specs.Prelude.{◌≡◌, refl, List, [], ◌∷◌, ◌++◌, ℕ, replicate}
use Rattle.records.specs.Bytes.{big, differ}
use Rattle.records.specs.List.{version, shut, frame, release, end, refused, mark, version_one, first_place, opening_of, kind_of, frame_at, release_at, stands_at}
use Rattle.records.specs.OfK.{list_of_k}
use Rattle.records.specs.Walk.{walk, walk_for}

-- mark and version, then these bytes
abbrev opened : List ℕ → List ℕ
opened bytes = mark ++ version_one ++ bytes

-- "all numbers high byte first"
high_first : big (1 ∷ 2 ∷ []) ≡ 258
unfolding big
high_first = refl

-- 54: 16,384 bytes are allowed, one more is not, whatever they are
too_long : opening_of (replicate 16385 0) ≡ shut 54
unfolding opening_of
too_long = refl

long : opening_of (opened (replicate 16379 0)) ≡ version 1
unfolding opening_of big differ
long = refl

-- the openings of fewer than 5 bytes: nothing, FX, FR, FRL 01, FRL 00
nothing : opening_of [] ≡ shut 52
unfolding opening_of differ
nothing = refl

other_mark : opening_of (0x46 ∷ 0x58 ∷ []) ≡ shut 50
unfolding opening_of differ
other_mark = refl

cut_mark : opening_of (0x46 ∷ 0x52 ∷ []) ≡ shut 52
unfolding opening_of differ
cut_mark = refl

other_version : opening_of (mark ++ 1 ∷ []) ≡ shut 51
unfolding opening_of differ
other_version = refl

cut_version : opening_of (mark ++ 0 ∷ []) ≡ shut 52
unfolding opening_of differ
cut_version = refl

-- version 2 is not known, and the mark is asked first
version_two : opening_of (mark ++ 0 ∷ 2 ∷ []) ≡ shut 51
unfolding opening_of differ
version_two = refl

mark_first : opening_of (0x46 ∷ 0x52 ∷ 0x4D ∷ 0 ∷ 2 ∷ []) ≡ shut 50
unfolding opening_of differ
mark_first = refl

-- at the first place: an unknown kind as the last byte, a release without its partition, one that is whole
unknown_last : stands_at (opened (3 ∷ [])) first_place ≡ refused 53
unfolding opening_of big differ kind_of stands_at
unknown_last = refl

cut_release : stands_at (opened (2 ∷ [])) first_place ≡ refused 52
unfolding opening_of big differ kind_of release_at stands_at
cut_release = refl

whole_release : stands_at (opened (2 ∷ 7 ∷ [])) first_place ≡ release 7 7
unfolding opening_of big differ kind_of release_at stands_at
whole_release = refl

-- a frame cut in its head, one cut by its last byte, one of no bytes
cut_head : stands_at (opened (1 ∷ replicate 10 0)) first_place ≡ refused 52
unfolding opening_of big differ kind_of frame_at stands_at
cut_head = refl

cut_bytes : stands_at (opened (1 ∷ replicate 10 0 ++ 1 ∷ [])) first_place ≡ refused 52
unfolding opening_of big differ kind_of frame_at stands_at
cut_bytes = refl

no_bytes : stands_at (opened (1 ∷ replicate 11 0)) first_place ≡ frame 0 0 17 0 17
unfolding opening_of big differ kind_of frame_at stands_at
no_bytes = refl

-- the list's end, and past it; a list that does not open has no end either
at_end : stands_at (opened []) first_place ≡ end
unfolding opening_of big differ stands_at
at_end = refl

past_end : stands_at (opened []) 18446744073709551615 ≡ end
unfolding opening_of big differ stands_at
past_end = refl

-- K's list has its four records and its end: no byte of it is refused
pub records_of_k : walk list_of_k first_place ≡ frame 0 10 17 60 77 ∷ frame 0 20 89 60 149 ∷ release 0 151 ∷ frame 1 30 163 59 222 ∷ end ∷ []
unfolding opening_of big differ kind_of frame_at release_at stands_at walk_for list_of_k
records_of_k = refl
