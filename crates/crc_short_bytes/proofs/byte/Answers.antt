-- `crc_short_bytes::byte` meets its contract: each number of an arm is made of those at the powers of two.
use Rattle.std.proofs.Common.{◌≡◌, refl, List, [], ◌∷◌, ℕ, ◌+◌, ◌<◌, T, eqb, lit<}
use Rattle.crc.specs.Crc.{bit, bits_out}
use Rattle.crc_short_bytes.specs.Twice.{twice}
use Rattle.crc_short_bytes.specs.Arm.{basis}
use Rattle.crc_short_bytes.specs.ArmLaws.{arm}
use Rattle.crc.specs.Arm.{pick}
use Rattle.crc_short_bytes.proofs.byte.Goals as goal

abbrev one : List ℕ
one = 0x177B144377073096 ∷ 0x2EF62886EE0E612C ∷ 0x5DEC510C076DC419 ∷ 0xBBD8A2180EDB8832 ∷ 0xACC042711DB71064 ∷ 0x82F182A33B6E20C8 ∷ 0xDE92030776DC4190 ∷ 0x6655004FEDB88320 ∷ []

one_are : one ≡ basis 8 0 8
unfolding bit bits_out twice basis
one_are = refl

abbrev two : List ℕ
two = 0xEFC26B3E191B3141 ∷ 0x4F5D03D32366282 ∷ 0x9EBA07A646CC504 ∷ 0x13D740F4C8D98A08 ∷ 0x27AE81E84AC21251 ∷ 0x4F5D03D0958424A2 ∷ 0x9EBA07A0F0794F05 ∷ 0xE60509013B83984B ∷ []

two_are : two ≡ basis 16 0 8
unfolding bit bits_out twice basis
two_are = refl

abbrev three : List ℕ
three = 0xC18EDFC001C26A37 ∷ 0x586CB9C10384D46E ∷ 0xB0D973820709A8DC ∷ 0xBAC3E1450E1351B8 ∷ 0xAEF6C4CB1C26A370 ∷ 0x869C8FD7384D46E0 ∷ 0xD64819EF709A8DC0 ∷ 0x77E1359FE1351B80 ∷ []

three_are : three ≡ basis 24 0 8
unfolding bit bits_out twice basis
three_are = refl

abbrev four : List ℕ
four = 0x9BA54C6FB8BC6765 ∷ 0xEC3B9E9FAA09C88B ∷ 0x3063B7F8F629757 ∷ 0x60C76FEC5B428EF ∷ 0xC18EDFC5019579F ∷ 0x1831DBF8A032AF3E ∷ 0x3063B7F09B14583D ∷ 0x60C76FE0ED59B63B ∷ []

four_are : four ≡ basis 32 0 8
unfolding bit bits_out twice basis
four_are = refl

abbrev five : List ℕ
five = 0xDD96D9853D6029B0 ∷ 0x605CB54B7AC05360 ∷ 0xC0B96A96F580A6C0 ∷ 0x5A03D36D30704BC1 ∷ 0xB407A6DA60E09782 ∷ 0xB37E4BF5C1C12F04 ∷ 0xBD8D91AB58F35849 ∷ 0xA06A2517B1E6B092 ∷ []

five_are : five ≡ basis 40 0 8
unfolding bit bits_out twice basis
five_are = refl

abbrev six : List ℕ
six = 0x9D0FE176CB5CD3A5 ∷ 0xE16EC4AD4DC8A10B ∷ 0x19AC8F1B9B914216 ∷ 0x33591E36EC53826D ∷ 0x66B23C6C03D6029B ∷ 0xCD6478D807AC0536 ∷ 0x41B9F7F10F580A6C ∷ 0x8373EFE21EB014D8 ∷ []

six_are : six ≡ basis 48 0 8
unfolding bit bits_out twice basis
six_are = refl

abbrev seven : List ℕ
seven = 0xB9FBDBE8A6770BB4 ∷ 0xA886B191979F1129 ∷ 0x8A7C6563F44F2413 ∷ 0xCF89CC8733EF4E67 ∷ 0x44629F4F67DE9CCE ∷ 0x88C53E9ECFBD399C ∷ 0xCAFB7B7D440B7579 ∷ 0x4E87F0BB8816EAF2 ∷ []

seven_are : seven ≡ basis 56 0 8
unfolding bit bits_out twice basis
seven_are = refl

abbrev eight : List ℕ
eight = 0xAE689191CCAA009E ∷ 0x87A025634225077D ∷ 0xD4314C87844A0EFA ∷ 0x73139F4FD3E51BB5 ∷ 0xE6273E9E7CBB312B ∷ 0x173F7B7DF9766256 ∷ 0x2E7EF6FA299DC2ED ∷ 0x5CFDEDF4533B85DA ∷ []

eight_are : eight ≡ basis 64 0 8
unfolding bit bits_out twice basis
eight_are = refl

-- the numbers of the arm at 256 + k, for the byte k
numbers : (k b v8 v16 v24 v32 v40 v48 v56 v64 : ℕ) → k < 256 → b + 256 ≡ k + 256
    → T (eqb v8 (pick one k))
    → T (eqb v16 (pick two k))
    → T (eqb v24 (pick three k))
    → T (eqb v32 (pick four k))
    → T (eqb v40 (pick five k))
    → T (eqb v48 (pick six k))
    → T (eqb v56 (pick seven k))
    → T (eqb v64 (pick eight k))
    → (v8 ≡ twice (bits_out 8 b))
    × (v16 ≡ twice (bits_out 16 b))
    × (v24 ≡ twice (bits_out 24 b))
    × (v32 ≡ twice (bits_out 32 b))
    × (v40 ≡ twice (bits_out 40 b))
    × (v48 ≡ twice (bits_out 48 b))
    × (v56 ≡ twice (bits_out 56 b))
    × (v64 ≡ twice (bits_out 64 b))
numbers k b v8 v16 v24 v32 v40 v48 v56 v64 h e t8 t16 t24 t32 t40 t48 t56 t64 = (
  arm 8 one k v8 b one_are h t8 e,
  arm 16 two k v16 b two_are h t16 e,
  arm 24 three k v24 b three_are h t24 e,
  arm 32 four k v32 b four_are h t32 e,
  arm 40 five k v40 b five_are h t40 e,
  arm 48 six k v48 b six_are h t48 e,
  arm 56 seven k v56 b seven_are h t56 e,
  arm 64 eight k v64 b eight_are h t64 e,
)

pub returns-in-256 : goal.returns-in-256
returns-in-256 c = numbers 0 _ _ _ _ _ _ _ _ _ (lit< tt) c.in-256.is tt tt tt tt tt tt tt tt

pub returns-in-257 : goal.returns-in-257
returns-in-257 c = numbers 1 _ _ _ _ _ _ _ _ _ (lit< tt) c.in-257.is tt tt tt tt tt tt tt tt

pub returns-in-258 : goal.returns-in-258
returns-in-258 c = numbers 2 _ _ _ _ _ _ _ _ _ (lit< tt) c.in-258.is tt tt tt tt tt tt tt tt

pub returns-in-259 : goal.returns-in-259
returns-in-259 c = numbers 3 _ _ _ _ _ _ _ _ _ (lit< tt) c.in-259.is tt tt tt tt tt tt tt tt

pub returns-in-260 : goal.returns-in-260
returns-in-260 c = numbers 4 _ _ _ _ _ _ _ _ _ (lit< tt) c.in-260.is tt tt tt tt tt tt tt tt

pub returns-in-261 : goal.returns-in-261
returns-in-261 c = numbers 5 _ _ _ _ _ _ _ _ _ (lit< tt) c.in-261.is tt tt tt tt tt tt tt tt

pub returns-in-262 : goal.returns-in-262
returns-in-262 c = numbers 6 _ _ _ _ _ _ _ _ _ (lit< tt) c.in-262.is tt tt tt tt tt tt tt tt

pub returns-in-263 : goal.returns-in-263
returns-in-263 c = numbers 7 _ _ _ _ _ _ _ _ _ (lit< tt) c.in-263.is tt tt tt tt tt tt tt tt

pub returns-in-264 : goal.returns-in-264
returns-in-264 c = numbers 8 _ _ _ _ _ _ _ _ _ (lit< tt) c.in-264.is tt tt tt tt tt tt tt tt

pub returns-in-265 : goal.returns-in-265
returns-in-265 c = numbers 9 _ _ _ _ _ _ _ _ _ (lit< tt) c.in-265.is tt tt tt tt tt tt tt tt

pub returns-in-266 : goal.returns-in-266
returns-in-266 c = numbers 10 _ _ _ _ _ _ _ _ _ (lit< tt) c.in-266.is tt tt tt tt tt tt tt tt

pub returns-in-267 : goal.returns-in-267
returns-in-267 c = numbers 11 _ _ _ _ _ _ _ _ _ (lit< tt) c.in-267.is tt tt tt tt tt tt tt tt

pub returns-in-268 : goal.returns-in-268
returns-in-268 c = numbers 12 _ _ _ _ _ _ _ _ _ (lit< tt) c.in-268.is tt tt tt tt tt tt tt tt

pub returns-in-269 : goal.returns-in-269
returns-in-269 c = numbers 13 _ _ _ _ _ _ _ _ _ (lit< tt) c.in-269.is tt tt tt tt tt tt tt tt

pub returns-in-270 : goal.returns-in-270
returns-in-270 c = numbers 14 _ _ _ _ _ _ _ _ _ (lit< tt) c.in-270.is tt tt tt tt tt tt tt tt

pub returns-in-271 : goal.returns-in-271
returns-in-271 c = numbers 15 _ _ _ _ _ _ _ _ _ (lit< tt) c.in-271.is tt tt tt tt tt tt tt tt

pub returns-in-272 : goal.returns-in-272
returns-in-272 c = numbers 16 _ _ _ _ _ _ _ _ _ (lit< tt) c.in-272.is tt tt tt tt tt tt tt tt

pub returns-in-273 : goal.returns-in-273
returns-in-273 c = numbers 17 _ _ _ _ _ _ _ _ _ (lit< tt) c.in-273.is tt tt tt tt tt tt tt tt

pub returns-in-274 : goal.returns-in-274
returns-in-274 c = numbers 18 _ _ _ _ _ _ _ _ _ (lit< tt) c.in-274.is tt tt tt tt tt tt tt tt

pub returns-in-275 : goal.returns-in-275
returns-in-275 c = numbers 19 _ _ _ _ _ _ _ _ _ (lit< tt) c.in-275.is tt tt tt tt tt tt tt tt

pub returns-in-276 : goal.returns-in-276
returns-in-276 c = numbers 20 _ _ _ _ _ _ _ _ _ (lit< tt) c.in-276.is tt tt tt tt tt tt tt tt

pub returns-in-277 : goal.returns-in-277
returns-in-277 c = numbers 21 _ _ _ _ _ _ _ _ _ (lit< tt) c.in-277.is tt tt tt tt tt tt tt tt

pub returns-in-278 : goal.returns-in-278
returns-in-278 c = numbers 22 _ _ _ _ _ _ _ _ _ (lit< tt) c.in-278.is tt tt tt tt tt tt tt tt

pub returns-in-279 : goal.returns-in-279
returns-in-279 c = numbers 23 _ _ _ _ _ _ _ _ _ (lit< tt) c.in-279.is tt tt tt tt tt tt tt tt

pub returns-in-280 : goal.returns-in-280
returns-in-280 c = numbers 24 _ _ _ _ _ _ _ _ _ (lit< tt) c.in-280.is tt tt tt tt tt tt tt tt

pub returns-in-281 : goal.returns-in-281
returns-in-281 c = numbers 25 _ _ _ _ _ _ _ _ _ (lit< tt) c.in-281.is tt tt tt tt tt tt tt tt

pub returns-in-282 : goal.returns-in-282
returns-in-282 c = numbers 26 _ _ _ _ _ _ _ _ _ (lit< tt) c.in-282.is tt tt tt tt tt tt tt tt

pub returns-in-283 : goal.returns-in-283
returns-in-283 c = numbers 27 _ _ _ _ _ _ _ _ _ (lit< tt) c.in-283.is tt tt tt tt tt tt tt tt

pub returns-in-284 : goal.returns-in-284
returns-in-284 c = numbers 28 _ _ _ _ _ _ _ _ _ (lit< tt) c.in-284.is tt tt tt tt tt tt tt tt

pub returns-in-285 : goal.returns-in-285
returns-in-285 c = numbers 29 _ _ _ _ _ _ _ _ _ (lit< tt) c.in-285.is tt tt tt tt tt tt tt tt

pub returns-in-286 : goal.returns-in-286
returns-in-286 c = numbers 30 _ _ _ _ _ _ _ _ _ (lit< tt) c.in-286.is tt tt tt tt tt tt tt tt

pub returns-in-287 : goal.returns-in-287
returns-in-287 c = numbers 31 _ _ _ _ _ _ _ _ _ (lit< tt) c.in-287.is tt tt tt tt tt tt tt tt

pub returns-in-288 : goal.returns-in-288
returns-in-288 c = numbers 32 _ _ _ _ _ _ _ _ _ (lit< tt) c.in-288.is tt tt tt tt tt tt tt tt

pub returns-in-289 : goal.returns-in-289
returns-in-289 c = numbers 33 _ _ _ _ _ _ _ _ _ (lit< tt) c.in-289.is tt tt tt tt tt tt tt tt

pub returns-in-290 : goal.returns-in-290
returns-in-290 c = numbers 34 _ _ _ _ _ _ _ _ _ (lit< tt) c.in-290.is tt tt tt tt tt tt tt tt

pub returns-in-291 : goal.returns-in-291
returns-in-291 c = numbers 35 _ _ _ _ _ _ _ _ _ (lit< tt) c.in-291.is tt tt tt tt tt tt tt tt

pub returns-in-292 : goal.returns-in-292
returns-in-292 c = numbers 36 _ _ _ _ _ _ _ _ _ (lit< tt) c.in-292.is tt tt tt tt tt tt tt tt

pub returns-in-293 : goal.returns-in-293
returns-in-293 c = numbers 37 _ _ _ _ _ _ _ _ _ (lit< tt) c.in-293.is tt tt tt tt tt tt tt tt

pub returns-in-294 : goal.returns-in-294
returns-in-294 c = numbers 38 _ _ _ _ _ _ _ _ _ (lit< tt) c.in-294.is tt tt tt tt tt tt tt tt

pub returns-in-295 : goal.returns-in-295
returns-in-295 c = numbers 39 _ _ _ _ _ _ _ _ _ (lit< tt) c.in-295.is tt tt tt tt tt tt tt tt

pub returns-in-296 : goal.returns-in-296
returns-in-296 c = numbers 40 _ _ _ _ _ _ _ _ _ (lit< tt) c.in-296.is tt tt tt tt tt tt tt tt

pub returns-in-297 : goal.returns-in-297
returns-in-297 c = numbers 41 _ _ _ _ _ _ _ _ _ (lit< tt) c.in-297.is tt tt tt tt tt tt tt tt

pub returns-in-298 : goal.returns-in-298
returns-in-298 c = numbers 42 _ _ _ _ _ _ _ _ _ (lit< tt) c.in-298.is tt tt tt tt tt tt tt tt

pub returns-in-299 : goal.returns-in-299
returns-in-299 c = numbers 43 _ _ _ _ _ _ _ _ _ (lit< tt) c.in-299.is tt tt tt tt tt tt tt tt

pub returns-in-300 : goal.returns-in-300
returns-in-300 c = numbers 44 _ _ _ _ _ _ _ _ _ (lit< tt) c.in-300.is tt tt tt tt tt tt tt tt

pub returns-in-301 : goal.returns-in-301
returns-in-301 c = numbers 45 _ _ _ _ _ _ _ _ _ (lit< tt) c.in-301.is tt tt tt tt tt tt tt tt

pub returns-in-302 : goal.returns-in-302
returns-in-302 c = numbers 46 _ _ _ _ _ _ _ _ _ (lit< tt) c.in-302.is tt tt tt tt tt tt tt tt

pub returns-in-303 : goal.returns-in-303
returns-in-303 c = numbers 47 _ _ _ _ _ _ _ _ _ (lit< tt) c.in-303.is tt tt tt tt tt tt tt tt

pub returns-in-304 : goal.returns-in-304
returns-in-304 c = numbers 48 _ _ _ _ _ _ _ _ _ (lit< tt) c.in-304.is tt tt tt tt tt tt tt tt

pub returns-in-305 : goal.returns-in-305
returns-in-305 c = numbers 49 _ _ _ _ _ _ _ _ _ (lit< tt) c.in-305.is tt tt tt tt tt tt tt tt

pub returns-in-306 : goal.returns-in-306
returns-in-306 c = numbers 50 _ _ _ _ _ _ _ _ _ (lit< tt) c.in-306.is tt tt tt tt tt tt tt tt

pub returns-in-307 : goal.returns-in-307
returns-in-307 c = numbers 51 _ _ _ _ _ _ _ _ _ (lit< tt) c.in-307.is tt tt tt tt tt tt tt tt

pub returns-in-308 : goal.returns-in-308
returns-in-308 c = numbers 52 _ _ _ _ _ _ _ _ _ (lit< tt) c.in-308.is tt tt tt tt tt tt tt tt

pub returns-in-309 : goal.returns-in-309
returns-in-309 c = numbers 53 _ _ _ _ _ _ _ _ _ (lit< tt) c.in-309.is tt tt tt tt tt tt tt tt

pub returns-in-310 : goal.returns-in-310
returns-in-310 c = numbers 54 _ _ _ _ _ _ _ _ _ (lit< tt) c.in-310.is tt tt tt tt tt tt tt tt

pub returns-in-311 : goal.returns-in-311
returns-in-311 c = numbers 55 _ _ _ _ _ _ _ _ _ (lit< tt) c.in-311.is tt tt tt tt tt tt tt tt

pub returns-in-312 : goal.returns-in-312
returns-in-312 c = numbers 56 _ _ _ _ _ _ _ _ _ (lit< tt) c.in-312.is tt tt tt tt tt tt tt tt

pub returns-in-313 : goal.returns-in-313
returns-in-313 c = numbers 57 _ _ _ _ _ _ _ _ _ (lit< tt) c.in-313.is tt tt tt tt tt tt tt tt

pub returns-in-314 : goal.returns-in-314
returns-in-314 c = numbers 58 _ _ _ _ _ _ _ _ _ (lit< tt) c.in-314.is tt tt tt tt tt tt tt tt

pub returns-in-315 : goal.returns-in-315
returns-in-315 c = numbers 59 _ _ _ _ _ _ _ _ _ (lit< tt) c.in-315.is tt tt tt tt tt tt tt tt

pub returns-in-316 : goal.returns-in-316
returns-in-316 c = numbers 60 _ _ _ _ _ _ _ _ _ (lit< tt) c.in-316.is tt tt tt tt tt tt tt tt

pub returns-in-317 : goal.returns-in-317
returns-in-317 c = numbers 61 _ _ _ _ _ _ _ _ _ (lit< tt) c.in-317.is tt tt tt tt tt tt tt tt

pub returns-in-318 : goal.returns-in-318
returns-in-318 c = numbers 62 _ _ _ _ _ _ _ _ _ (lit< tt) c.in-318.is tt tt tt tt tt tt tt tt

pub returns-in-319 : goal.returns-in-319
returns-in-319 c = numbers 63 _ _ _ _ _ _ _ _ _ (lit< tt) c.in-319.is tt tt tt tt tt tt tt tt

pub returns-in-320 : goal.returns-in-320
returns-in-320 c = numbers 64 _ _ _ _ _ _ _ _ _ (lit< tt) c.in-320.is tt tt tt tt tt tt tt tt

pub returns-in-321 : goal.returns-in-321
returns-in-321 c = numbers 65 _ _ _ _ _ _ _ _ _ (lit< tt) c.in-321.is tt tt tt tt tt tt tt tt

pub returns-in-322 : goal.returns-in-322
returns-in-322 c = numbers 66 _ _ _ _ _ _ _ _ _ (lit< tt) c.in-322.is tt tt tt tt tt tt tt tt

pub returns-in-323 : goal.returns-in-323
returns-in-323 c = numbers 67 _ _ _ _ _ _ _ _ _ (lit< tt) c.in-323.is tt tt tt tt tt tt tt tt

pub returns-in-324 : goal.returns-in-324
returns-in-324 c = numbers 68 _ _ _ _ _ _ _ _ _ (lit< tt) c.in-324.is tt tt tt tt tt tt tt tt

pub returns-in-325 : goal.returns-in-325
returns-in-325 c = numbers 69 _ _ _ _ _ _ _ _ _ (lit< tt) c.in-325.is tt tt tt tt tt tt tt tt

pub returns-in-326 : goal.returns-in-326
returns-in-326 c = numbers 70 _ _ _ _ _ _ _ _ _ (lit< tt) c.in-326.is tt tt tt tt tt tt tt tt

pub returns-in-327 : goal.returns-in-327
returns-in-327 c = numbers 71 _ _ _ _ _ _ _ _ _ (lit< tt) c.in-327.is tt tt tt tt tt tt tt tt

pub returns-in-328 : goal.returns-in-328
returns-in-328 c = numbers 72 _ _ _ _ _ _ _ _ _ (lit< tt) c.in-328.is tt tt tt tt tt tt tt tt

pub returns-in-329 : goal.returns-in-329
returns-in-329 c = numbers 73 _ _ _ _ _ _ _ _ _ (lit< tt) c.in-329.is tt tt tt tt tt tt tt tt

pub returns-in-330 : goal.returns-in-330
returns-in-330 c = numbers 74 _ _ _ _ _ _ _ _ _ (lit< tt) c.in-330.is tt tt tt tt tt tt tt tt

pub returns-in-331 : goal.returns-in-331
returns-in-331 c = numbers 75 _ _ _ _ _ _ _ _ _ (lit< tt) c.in-331.is tt tt tt tt tt tt tt tt

pub returns-in-332 : goal.returns-in-332
returns-in-332 c = numbers 76 _ _ _ _ _ _ _ _ _ (lit< tt) c.in-332.is tt tt tt tt tt tt tt tt

pub returns-in-333 : goal.returns-in-333
returns-in-333 c = numbers 77 _ _ _ _ _ _ _ _ _ (lit< tt) c.in-333.is tt tt tt tt tt tt tt tt

pub returns-in-334 : goal.returns-in-334
returns-in-334 c = numbers 78 _ _ _ _ _ _ _ _ _ (lit< tt) c.in-334.is tt tt tt tt tt tt tt tt

pub returns-in-335 : goal.returns-in-335
returns-in-335 c = numbers 79 _ _ _ _ _ _ _ _ _ (lit< tt) c.in-335.is tt tt tt tt tt tt tt tt

pub returns-in-336 : goal.returns-in-336
returns-in-336 c = numbers 80 _ _ _ _ _ _ _ _ _ (lit< tt) c.in-336.is tt tt tt tt tt tt tt tt

pub returns-in-337 : goal.returns-in-337
returns-in-337 c = numbers 81 _ _ _ _ _ _ _ _ _ (lit< tt) c.in-337.is tt tt tt tt tt tt tt tt

pub returns-in-338 : goal.returns-in-338
returns-in-338 c = numbers 82 _ _ _ _ _ _ _ _ _ (lit< tt) c.in-338.is tt tt tt tt tt tt tt tt

pub returns-in-339 : goal.returns-in-339
returns-in-339 c = numbers 83 _ _ _ _ _ _ _ _ _ (lit< tt) c.in-339.is tt tt tt tt tt tt tt tt

pub returns-in-340 : goal.returns-in-340
returns-in-340 c = numbers 84 _ _ _ _ _ _ _ _ _ (lit< tt) c.in-340.is tt tt tt tt tt tt tt tt

pub returns-in-341 : goal.returns-in-341
returns-in-341 c = numbers 85 _ _ _ _ _ _ _ _ _ (lit< tt) c.in-341.is tt tt tt tt tt tt tt tt

pub returns-in-342 : goal.returns-in-342
returns-in-342 c = numbers 86 _ _ _ _ _ _ _ _ _ (lit< tt) c.in-342.is tt tt tt tt tt tt tt tt

pub returns-in-343 : goal.returns-in-343
returns-in-343 c = numbers 87 _ _ _ _ _ _ _ _ _ (lit< tt) c.in-343.is tt tt tt tt tt tt tt tt

pub returns-in-344 : goal.returns-in-344
returns-in-344 c = numbers 88 _ _ _ _ _ _ _ _ _ (lit< tt) c.in-344.is tt tt tt tt tt tt tt tt

pub returns-in-345 : goal.returns-in-345
returns-in-345 c = numbers 89 _ _ _ _ _ _ _ _ _ (lit< tt) c.in-345.is tt tt tt tt tt tt tt tt

pub returns-in-346 : goal.returns-in-346
returns-in-346 c = numbers 90 _ _ _ _ _ _ _ _ _ (lit< tt) c.in-346.is tt tt tt tt tt tt tt tt

pub returns-in-347 : goal.returns-in-347
returns-in-347 c = numbers 91 _ _ _ _ _ _ _ _ _ (lit< tt) c.in-347.is tt tt tt tt tt tt tt tt

pub returns-in-348 : goal.returns-in-348
returns-in-348 c = numbers 92 _ _ _ _ _ _ _ _ _ (lit< tt) c.in-348.is tt tt tt tt tt tt tt tt

pub returns-in-349 : goal.returns-in-349
returns-in-349 c = numbers 93 _ _ _ _ _ _ _ _ _ (lit< tt) c.in-349.is tt tt tt tt tt tt tt tt

pub returns-in-350 : goal.returns-in-350
returns-in-350 c = numbers 94 _ _ _ _ _ _ _ _ _ (lit< tt) c.in-350.is tt tt tt tt tt tt tt tt

pub returns-in-351 : goal.returns-in-351
returns-in-351 c = numbers 95 _ _ _ _ _ _ _ _ _ (lit< tt) c.in-351.is tt tt tt tt tt tt tt tt

pub returns-in-352 : goal.returns-in-352
returns-in-352 c = numbers 96 _ _ _ _ _ _ _ _ _ (lit< tt) c.in-352.is tt tt tt tt tt tt tt tt

pub returns-in-353 : goal.returns-in-353
returns-in-353 c = numbers 97 _ _ _ _ _ _ _ _ _ (lit< tt) c.in-353.is tt tt tt tt tt tt tt tt

pub returns-in-354 : goal.returns-in-354
returns-in-354 c = numbers 98 _ _ _ _ _ _ _ _ _ (lit< tt) c.in-354.is tt tt tt tt tt tt tt tt

pub returns-in-355 : goal.returns-in-355
returns-in-355 c = numbers 99 _ _ _ _ _ _ _ _ _ (lit< tt) c.in-355.is tt tt tt tt tt tt tt tt

pub returns-in-356 : goal.returns-in-356
returns-in-356 c = numbers 100 _ _ _ _ _ _ _ _ _ (lit< tt) c.in-356.is tt tt tt tt tt tt tt tt

pub returns-in-357 : goal.returns-in-357
returns-in-357 c = numbers 101 _ _ _ _ _ _ _ _ _ (lit< tt) c.in-357.is tt tt tt tt tt tt tt tt

pub returns-in-358 : goal.returns-in-358
returns-in-358 c = numbers 102 _ _ _ _ _ _ _ _ _ (lit< tt) c.in-358.is tt tt tt tt tt tt tt tt

pub returns-in-359 : goal.returns-in-359
returns-in-359 c = numbers 103 _ _ _ _ _ _ _ _ _ (lit< tt) c.in-359.is tt tt tt tt tt tt tt tt

pub returns-in-360 : goal.returns-in-360
returns-in-360 c = numbers 104 _ _ _ _ _ _ _ _ _ (lit< tt) c.in-360.is tt tt tt tt tt tt tt tt

pub returns-in-361 : goal.returns-in-361
returns-in-361 c = numbers 105 _ _ _ _ _ _ _ _ _ (lit< tt) c.in-361.is tt tt tt tt tt tt tt tt

pub returns-in-362 : goal.returns-in-362
returns-in-362 c = numbers 106 _ _ _ _ _ _ _ _ _ (lit< tt) c.in-362.is tt tt tt tt tt tt tt tt

pub returns-in-363 : goal.returns-in-363
returns-in-363 c = numbers 107 _ _ _ _ _ _ _ _ _ (lit< tt) c.in-363.is tt tt tt tt tt tt tt tt

pub returns-in-364 : goal.returns-in-364
returns-in-364 c = numbers 108 _ _ _ _ _ _ _ _ _ (lit< tt) c.in-364.is tt tt tt tt tt tt tt tt

pub returns-in-365 : goal.returns-in-365
returns-in-365 c = numbers 109 _ _ _ _ _ _ _ _ _ (lit< tt) c.in-365.is tt tt tt tt tt tt tt tt

pub returns-in-366 : goal.returns-in-366
returns-in-366 c = numbers 110 _ _ _ _ _ _ _ _ _ (lit< tt) c.in-366.is tt tt tt tt tt tt tt tt

pub returns-in-367 : goal.returns-in-367
returns-in-367 c = numbers 111 _ _ _ _ _ _ _ _ _ (lit< tt) c.in-367.is tt tt tt tt tt tt tt tt

pub returns-in-368 : goal.returns-in-368
returns-in-368 c = numbers 112 _ _ _ _ _ _ _ _ _ (lit< tt) c.in-368.is tt tt tt tt tt tt tt tt

pub returns-in-369 : goal.returns-in-369
returns-in-369 c = numbers 113 _ _ _ _ _ _ _ _ _ (lit< tt) c.in-369.is tt tt tt tt tt tt tt tt

pub returns-in-370 : goal.returns-in-370
returns-in-370 c = numbers 114 _ _ _ _ _ _ _ _ _ (lit< tt) c.in-370.is tt tt tt tt tt tt tt tt

pub returns-in-371 : goal.returns-in-371
returns-in-371 c = numbers 115 _ _ _ _ _ _ _ _ _ (lit< tt) c.in-371.is tt tt tt tt tt tt tt tt

pub returns-in-372 : goal.returns-in-372
returns-in-372 c = numbers 116 _ _ _ _ _ _ _ _ _ (lit< tt) c.in-372.is tt tt tt tt tt tt tt tt

pub returns-in-373 : goal.returns-in-373
returns-in-373 c = numbers 117 _ _ _ _ _ _ _ _ _ (lit< tt) c.in-373.is tt tt tt tt tt tt tt tt

pub returns-in-374 : goal.returns-in-374
returns-in-374 c = numbers 118 _ _ _ _ _ _ _ _ _ (lit< tt) c.in-374.is tt tt tt tt tt tt tt tt

pub returns-in-375 : goal.returns-in-375
returns-in-375 c = numbers 119 _ _ _ _ _ _ _ _ _ (lit< tt) c.in-375.is tt tt tt tt tt tt tt tt

pub returns-in-376 : goal.returns-in-376
returns-in-376 c = numbers 120 _ _ _ _ _ _ _ _ _ (lit< tt) c.in-376.is tt tt tt tt tt tt tt tt

pub returns-in-377 : goal.returns-in-377
returns-in-377 c = numbers 121 _ _ _ _ _ _ _ _ _ (lit< tt) c.in-377.is tt tt tt tt tt tt tt tt

pub returns-in-378 : goal.returns-in-378
returns-in-378 c = numbers 122 _ _ _ _ _ _ _ _ _ (lit< tt) c.in-378.is tt tt tt tt tt tt tt tt

pub returns-in-379 : goal.returns-in-379
returns-in-379 c = numbers 123 _ _ _ _ _ _ _ _ _ (lit< tt) c.in-379.is tt tt tt tt tt tt tt tt

pub returns-in-380 : goal.returns-in-380
returns-in-380 c = numbers 124 _ _ _ _ _ _ _ _ _ (lit< tt) c.in-380.is tt tt tt tt tt tt tt tt

pub returns-in-381 : goal.returns-in-381
returns-in-381 c = numbers 125 _ _ _ _ _ _ _ _ _ (lit< tt) c.in-381.is tt tt tt tt tt tt tt tt

pub returns-in-382 : goal.returns-in-382
returns-in-382 c = numbers 126 _ _ _ _ _ _ _ _ _ (lit< tt) c.in-382.is tt tt tt tt tt tt tt tt

pub returns-in-383 : goal.returns-in-383
returns-in-383 c = numbers 127 _ _ _ _ _ _ _ _ _ (lit< tt) c.in-383.is tt tt tt tt tt tt tt tt

pub returns-in-384 : goal.returns-in-384
returns-in-384 c = numbers 128 _ _ _ _ _ _ _ _ _ (lit< tt) c.in-384.is tt tt tt tt tt tt tt tt

pub returns-in-385 : goal.returns-in-385
returns-in-385 c = numbers 129 _ _ _ _ _ _ _ _ _ (lit< tt) c.in-385.is tt tt tt tt tt tt tt tt

pub returns-in-386 : goal.returns-in-386
returns-in-386 c = numbers 130 _ _ _ _ _ _ _ _ _ (lit< tt) c.in-386.is tt tt tt tt tt tt tt tt

pub returns-in-387 : goal.returns-in-387
returns-in-387 c = numbers 131 _ _ _ _ _ _ _ _ _ (lit< tt) c.in-387.is tt tt tt tt tt tt tt tt

pub returns-in-388 : goal.returns-in-388
returns-in-388 c = numbers 132 _ _ _ _ _ _ _ _ _ (lit< tt) c.in-388.is tt tt tt tt tt tt tt tt

pub returns-in-389 : goal.returns-in-389
returns-in-389 c = numbers 133 _ _ _ _ _ _ _ _ _ (lit< tt) c.in-389.is tt tt tt tt tt tt tt tt

pub returns-in-390 : goal.returns-in-390
returns-in-390 c = numbers 134 _ _ _ _ _ _ _ _ _ (lit< tt) c.in-390.is tt tt tt tt tt tt tt tt

pub returns-in-391 : goal.returns-in-391
returns-in-391 c = numbers 135 _ _ _ _ _ _ _ _ _ (lit< tt) c.in-391.is tt tt tt tt tt tt tt tt

pub returns-in-392 : goal.returns-in-392
returns-in-392 c = numbers 136 _ _ _ _ _ _ _ _ _ (lit< tt) c.in-392.is tt tt tt tt tt tt tt tt

pub returns-in-393 : goal.returns-in-393
returns-in-393 c = numbers 137 _ _ _ _ _ _ _ _ _ (lit< tt) c.in-393.is tt tt tt tt tt tt tt tt

pub returns-in-394 : goal.returns-in-394
returns-in-394 c = numbers 138 _ _ _ _ _ _ _ _ _ (lit< tt) c.in-394.is tt tt tt tt tt tt tt tt

pub returns-in-395 : goal.returns-in-395
returns-in-395 c = numbers 139 _ _ _ _ _ _ _ _ _ (lit< tt) c.in-395.is tt tt tt tt tt tt tt tt

pub returns-in-396 : goal.returns-in-396
returns-in-396 c = numbers 140 _ _ _ _ _ _ _ _ _ (lit< tt) c.in-396.is tt tt tt tt tt tt tt tt

pub returns-in-397 : goal.returns-in-397
returns-in-397 c = numbers 141 _ _ _ _ _ _ _ _ _ (lit< tt) c.in-397.is tt tt tt tt tt tt tt tt

pub returns-in-398 : goal.returns-in-398
returns-in-398 c = numbers 142 _ _ _ _ _ _ _ _ _ (lit< tt) c.in-398.is tt tt tt tt tt tt tt tt

pub returns-in-399 : goal.returns-in-399
returns-in-399 c = numbers 143 _ _ _ _ _ _ _ _ _ (lit< tt) c.in-399.is tt tt tt tt tt tt tt tt

pub returns-in-400 : goal.returns-in-400
returns-in-400 c = numbers 144 _ _ _ _ _ _ _ _ _ (lit< tt) c.in-400.is tt tt tt tt tt tt tt tt

pub returns-in-401 : goal.returns-in-401
returns-in-401 c = numbers 145 _ _ _ _ _ _ _ _ _ (lit< tt) c.in-401.is tt tt tt tt tt tt tt tt

pub returns-in-402 : goal.returns-in-402
returns-in-402 c = numbers 146 _ _ _ _ _ _ _ _ _ (lit< tt) c.in-402.is tt tt tt tt tt tt tt tt

pub returns-in-403 : goal.returns-in-403
returns-in-403 c = numbers 147 _ _ _ _ _ _ _ _ _ (lit< tt) c.in-403.is tt tt tt tt tt tt tt tt

pub returns-in-404 : goal.returns-in-404
returns-in-404 c = numbers 148 _ _ _ _ _ _ _ _ _ (lit< tt) c.in-404.is tt tt tt tt tt tt tt tt

pub returns-in-405 : goal.returns-in-405
returns-in-405 c = numbers 149 _ _ _ _ _ _ _ _ _ (lit< tt) c.in-405.is tt tt tt tt tt tt tt tt

pub returns-in-406 : goal.returns-in-406
returns-in-406 c = numbers 150 _ _ _ _ _ _ _ _ _ (lit< tt) c.in-406.is tt tt tt tt tt tt tt tt

pub returns-in-407 : goal.returns-in-407
returns-in-407 c = numbers 151 _ _ _ _ _ _ _ _ _ (lit< tt) c.in-407.is tt tt tt tt tt tt tt tt

pub returns-in-408 : goal.returns-in-408
returns-in-408 c = numbers 152 _ _ _ _ _ _ _ _ _ (lit< tt) c.in-408.is tt tt tt tt tt tt tt tt

pub returns-in-409 : goal.returns-in-409
returns-in-409 c = numbers 153 _ _ _ _ _ _ _ _ _ (lit< tt) c.in-409.is tt tt tt tt tt tt tt tt

pub returns-in-410 : goal.returns-in-410
returns-in-410 c = numbers 154 _ _ _ _ _ _ _ _ _ (lit< tt) c.in-410.is tt tt tt tt tt tt tt tt

pub returns-in-411 : goal.returns-in-411
returns-in-411 c = numbers 155 _ _ _ _ _ _ _ _ _ (lit< tt) c.in-411.is tt tt tt tt tt tt tt tt

pub returns-in-412 : goal.returns-in-412
returns-in-412 c = numbers 156 _ _ _ _ _ _ _ _ _ (lit< tt) c.in-412.is tt tt tt tt tt tt tt tt

pub returns-in-413 : goal.returns-in-413
returns-in-413 c = numbers 157 _ _ _ _ _ _ _ _ _ (lit< tt) c.in-413.is tt tt tt tt tt tt tt tt

pub returns-in-414 : goal.returns-in-414
returns-in-414 c = numbers 158 _ _ _ _ _ _ _ _ _ (lit< tt) c.in-414.is tt tt tt tt tt tt tt tt

pub returns-in-415 : goal.returns-in-415
returns-in-415 c = numbers 159 _ _ _ _ _ _ _ _ _ (lit< tt) c.in-415.is tt tt tt tt tt tt tt tt

pub returns-in-416 : goal.returns-in-416
returns-in-416 c = numbers 160 _ _ _ _ _ _ _ _ _ (lit< tt) c.in-416.is tt tt tt tt tt tt tt tt

pub returns-in-417 : goal.returns-in-417
returns-in-417 c = numbers 161 _ _ _ _ _ _ _ _ _ (lit< tt) c.in-417.is tt tt tt tt tt tt tt tt

pub returns-in-418 : goal.returns-in-418
returns-in-418 c = numbers 162 _ _ _ _ _ _ _ _ _ (lit< tt) c.in-418.is tt tt tt tt tt tt tt tt

pub returns-in-419 : goal.returns-in-419
returns-in-419 c = numbers 163 _ _ _ _ _ _ _ _ _ (lit< tt) c.in-419.is tt tt tt tt tt tt tt tt

pub returns-in-420 : goal.returns-in-420
returns-in-420 c = numbers 164 _ _ _ _ _ _ _ _ _ (lit< tt) c.in-420.is tt tt tt tt tt tt tt tt

pub returns-in-421 : goal.returns-in-421
returns-in-421 c = numbers 165 _ _ _ _ _ _ _ _ _ (lit< tt) c.in-421.is tt tt tt tt tt tt tt tt

pub returns-in-422 : goal.returns-in-422
returns-in-422 c = numbers 166 _ _ _ _ _ _ _ _ _ (lit< tt) c.in-422.is tt tt tt tt tt tt tt tt

pub returns-in-423 : goal.returns-in-423
returns-in-423 c = numbers 167 _ _ _ _ _ _ _ _ _ (lit< tt) c.in-423.is tt tt tt tt tt tt tt tt

pub returns-in-424 : goal.returns-in-424
returns-in-424 c = numbers 168 _ _ _ _ _ _ _ _ _ (lit< tt) c.in-424.is tt tt tt tt tt tt tt tt

pub returns-in-425 : goal.returns-in-425
returns-in-425 c = numbers 169 _ _ _ _ _ _ _ _ _ (lit< tt) c.in-425.is tt tt tt tt tt tt tt tt

pub returns-in-426 : goal.returns-in-426
returns-in-426 c = numbers 170 _ _ _ _ _ _ _ _ _ (lit< tt) c.in-426.is tt tt tt tt tt tt tt tt

pub returns-in-427 : goal.returns-in-427
returns-in-427 c = numbers 171 _ _ _ _ _ _ _ _ _ (lit< tt) c.in-427.is tt tt tt tt tt tt tt tt

pub returns-in-428 : goal.returns-in-428
returns-in-428 c = numbers 172 _ _ _ _ _ _ _ _ _ (lit< tt) c.in-428.is tt tt tt tt tt tt tt tt

pub returns-in-429 : goal.returns-in-429
returns-in-429 c = numbers 173 _ _ _ _ _ _ _ _ _ (lit< tt) c.in-429.is tt tt tt tt tt tt tt tt

pub returns-in-430 : goal.returns-in-430
returns-in-430 c = numbers 174 _ _ _ _ _ _ _ _ _ (lit< tt) c.in-430.is tt tt tt tt tt tt tt tt

pub returns-in-431 : goal.returns-in-431
returns-in-431 c = numbers 175 _ _ _ _ _ _ _ _ _ (lit< tt) c.in-431.is tt tt tt tt tt tt tt tt

pub returns-in-432 : goal.returns-in-432
returns-in-432 c = numbers 176 _ _ _ _ _ _ _ _ _ (lit< tt) c.in-432.is tt tt tt tt tt tt tt tt

pub returns-in-433 : goal.returns-in-433
returns-in-433 c = numbers 177 _ _ _ _ _ _ _ _ _ (lit< tt) c.in-433.is tt tt tt tt tt tt tt tt

pub returns-in-434 : goal.returns-in-434
returns-in-434 c = numbers 178 _ _ _ _ _ _ _ _ _ (lit< tt) c.in-434.is tt tt tt tt tt tt tt tt

pub returns-in-435 : goal.returns-in-435
returns-in-435 c = numbers 179 _ _ _ _ _ _ _ _ _ (lit< tt) c.in-435.is tt tt tt tt tt tt tt tt

pub returns-in-436 : goal.returns-in-436
returns-in-436 c = numbers 180 _ _ _ _ _ _ _ _ _ (lit< tt) c.in-436.is tt tt tt tt tt tt tt tt

pub returns-in-437 : goal.returns-in-437
returns-in-437 c = numbers 181 _ _ _ _ _ _ _ _ _ (lit< tt) c.in-437.is tt tt tt tt tt tt tt tt

pub returns-in-438 : goal.returns-in-438
returns-in-438 c = numbers 182 _ _ _ _ _ _ _ _ _ (lit< tt) c.in-438.is tt tt tt tt tt tt tt tt

pub returns-in-439 : goal.returns-in-439
returns-in-439 c = numbers 183 _ _ _ _ _ _ _ _ _ (lit< tt) c.in-439.is tt tt tt tt tt tt tt tt

pub returns-in-440 : goal.returns-in-440
returns-in-440 c = numbers 184 _ _ _ _ _ _ _ _ _ (lit< tt) c.in-440.is tt tt tt tt tt tt tt tt

pub returns-in-441 : goal.returns-in-441
returns-in-441 c = numbers 185 _ _ _ _ _ _ _ _ _ (lit< tt) c.in-441.is tt tt tt tt tt tt tt tt

pub returns-in-442 : goal.returns-in-442
returns-in-442 c = numbers 186 _ _ _ _ _ _ _ _ _ (lit< tt) c.in-442.is tt tt tt tt tt tt tt tt

pub returns-in-443 : goal.returns-in-443
returns-in-443 c = numbers 187 _ _ _ _ _ _ _ _ _ (lit< tt) c.in-443.is tt tt tt tt tt tt tt tt

pub returns-in-444 : goal.returns-in-444
returns-in-444 c = numbers 188 _ _ _ _ _ _ _ _ _ (lit< tt) c.in-444.is tt tt tt tt tt tt tt tt

pub returns-in-445 : goal.returns-in-445
returns-in-445 c = numbers 189 _ _ _ _ _ _ _ _ _ (lit< tt) c.in-445.is tt tt tt tt tt tt tt tt

pub returns-in-446 : goal.returns-in-446
returns-in-446 c = numbers 190 _ _ _ _ _ _ _ _ _ (lit< tt) c.in-446.is tt tt tt tt tt tt tt tt

pub returns-in-447 : goal.returns-in-447
returns-in-447 c = numbers 191 _ _ _ _ _ _ _ _ _ (lit< tt) c.in-447.is tt tt tt tt tt tt tt tt

pub returns-in-448 : goal.returns-in-448
returns-in-448 c = numbers 192 _ _ _ _ _ _ _ _ _ (lit< tt) c.in-448.is tt tt tt tt tt tt tt tt

pub returns-in-449 : goal.returns-in-449
returns-in-449 c = numbers 193 _ _ _ _ _ _ _ _ _ (lit< tt) c.in-449.is tt tt tt tt tt tt tt tt

pub returns-in-450 : goal.returns-in-450
returns-in-450 c = numbers 194 _ _ _ _ _ _ _ _ _ (lit< tt) c.in-450.is tt tt tt tt tt tt tt tt

pub returns-in-451 : goal.returns-in-451
returns-in-451 c = numbers 195 _ _ _ _ _ _ _ _ _ (lit< tt) c.in-451.is tt tt tt tt tt tt tt tt

pub returns-in-452 : goal.returns-in-452
returns-in-452 c = numbers 196 _ _ _ _ _ _ _ _ _ (lit< tt) c.in-452.is tt tt tt tt tt tt tt tt

pub returns-in-453 : goal.returns-in-453
returns-in-453 c = numbers 197 _ _ _ _ _ _ _ _ _ (lit< tt) c.in-453.is tt tt tt tt tt tt tt tt

pub returns-in-454 : goal.returns-in-454
returns-in-454 c = numbers 198 _ _ _ _ _ _ _ _ _ (lit< tt) c.in-454.is tt tt tt tt tt tt tt tt

pub returns-in-455 : goal.returns-in-455
returns-in-455 c = numbers 199 _ _ _ _ _ _ _ _ _ (lit< tt) c.in-455.is tt tt tt tt tt tt tt tt

pub returns-in-456 : goal.returns-in-456
returns-in-456 c = numbers 200 _ _ _ _ _ _ _ _ _ (lit< tt) c.in-456.is tt tt tt tt tt tt tt tt

pub returns-in-457 : goal.returns-in-457
returns-in-457 c = numbers 201 _ _ _ _ _ _ _ _ _ (lit< tt) c.in-457.is tt tt tt tt tt tt tt tt

pub returns-in-458 : goal.returns-in-458
returns-in-458 c = numbers 202 _ _ _ _ _ _ _ _ _ (lit< tt) c.in-458.is tt tt tt tt tt tt tt tt

pub returns-in-459 : goal.returns-in-459
returns-in-459 c = numbers 203 _ _ _ _ _ _ _ _ _ (lit< tt) c.in-459.is tt tt tt tt tt tt tt tt

pub returns-in-460 : goal.returns-in-460
returns-in-460 c = numbers 204 _ _ _ _ _ _ _ _ _ (lit< tt) c.in-460.is tt tt tt tt tt tt tt tt

pub returns-in-461 : goal.returns-in-461
returns-in-461 c = numbers 205 _ _ _ _ _ _ _ _ _ (lit< tt) c.in-461.is tt tt tt tt tt tt tt tt

pub returns-in-462 : goal.returns-in-462
returns-in-462 c = numbers 206 _ _ _ _ _ _ _ _ _ (lit< tt) c.in-462.is tt tt tt tt tt tt tt tt

pub returns-in-463 : goal.returns-in-463
returns-in-463 c = numbers 207 _ _ _ _ _ _ _ _ _ (lit< tt) c.in-463.is tt tt tt tt tt tt tt tt

pub returns-in-464 : goal.returns-in-464
returns-in-464 c = numbers 208 _ _ _ _ _ _ _ _ _ (lit< tt) c.in-464.is tt tt tt tt tt tt tt tt

pub returns-in-465 : goal.returns-in-465
returns-in-465 c = numbers 209 _ _ _ _ _ _ _ _ _ (lit< tt) c.in-465.is tt tt tt tt tt tt tt tt

pub returns-in-466 : goal.returns-in-466
returns-in-466 c = numbers 210 _ _ _ _ _ _ _ _ _ (lit< tt) c.in-466.is tt tt tt tt tt tt tt tt

pub returns-in-467 : goal.returns-in-467
returns-in-467 c = numbers 211 _ _ _ _ _ _ _ _ _ (lit< tt) c.in-467.is tt tt tt tt tt tt tt tt

pub returns-in-468 : goal.returns-in-468
returns-in-468 c = numbers 212 _ _ _ _ _ _ _ _ _ (lit< tt) c.in-468.is tt tt tt tt tt tt tt tt

pub returns-in-469 : goal.returns-in-469
returns-in-469 c = numbers 213 _ _ _ _ _ _ _ _ _ (lit< tt) c.in-469.is tt tt tt tt tt tt tt tt

pub returns-in-470 : goal.returns-in-470
returns-in-470 c = numbers 214 _ _ _ _ _ _ _ _ _ (lit< tt) c.in-470.is tt tt tt tt tt tt tt tt

pub returns-in-471 : goal.returns-in-471
returns-in-471 c = numbers 215 _ _ _ _ _ _ _ _ _ (lit< tt) c.in-471.is tt tt tt tt tt tt tt tt

pub returns-in-472 : goal.returns-in-472
returns-in-472 c = numbers 216 _ _ _ _ _ _ _ _ _ (lit< tt) c.in-472.is tt tt tt tt tt tt tt tt

pub returns-in-473 : goal.returns-in-473
returns-in-473 c = numbers 217 _ _ _ _ _ _ _ _ _ (lit< tt) c.in-473.is tt tt tt tt tt tt tt tt

pub returns-in-474 : goal.returns-in-474
returns-in-474 c = numbers 218 _ _ _ _ _ _ _ _ _ (lit< tt) c.in-474.is tt tt tt tt tt tt tt tt

pub returns-in-475 : goal.returns-in-475
returns-in-475 c = numbers 219 _ _ _ _ _ _ _ _ _ (lit< tt) c.in-475.is tt tt tt tt tt tt tt tt

pub returns-in-476 : goal.returns-in-476
returns-in-476 c = numbers 220 _ _ _ _ _ _ _ _ _ (lit< tt) c.in-476.is tt tt tt tt tt tt tt tt

pub returns-in-477 : goal.returns-in-477
returns-in-477 c = numbers 221 _ _ _ _ _ _ _ _ _ (lit< tt) c.in-477.is tt tt tt tt tt tt tt tt

pub returns-in-478 : goal.returns-in-478
returns-in-478 c = numbers 222 _ _ _ _ _ _ _ _ _ (lit< tt) c.in-478.is tt tt tt tt tt tt tt tt

pub returns-in-479 : goal.returns-in-479
returns-in-479 c = numbers 223 _ _ _ _ _ _ _ _ _ (lit< tt) c.in-479.is tt tt tt tt tt tt tt tt

pub returns-in-480 : goal.returns-in-480
returns-in-480 c = numbers 224 _ _ _ _ _ _ _ _ _ (lit< tt) c.in-480.is tt tt tt tt tt tt tt tt

pub returns-in-481 : goal.returns-in-481
returns-in-481 c = numbers 225 _ _ _ _ _ _ _ _ _ (lit< tt) c.in-481.is tt tt tt tt tt tt tt tt

pub returns-in-482 : goal.returns-in-482
returns-in-482 c = numbers 226 _ _ _ _ _ _ _ _ _ (lit< tt) c.in-482.is tt tt tt tt tt tt tt tt

pub returns-in-483 : goal.returns-in-483
returns-in-483 c = numbers 227 _ _ _ _ _ _ _ _ _ (lit< tt) c.in-483.is tt tt tt tt tt tt tt tt

pub returns-in-484 : goal.returns-in-484
returns-in-484 c = numbers 228 _ _ _ _ _ _ _ _ _ (lit< tt) c.in-484.is tt tt tt tt tt tt tt tt

pub returns-in-485 : goal.returns-in-485
returns-in-485 c = numbers 229 _ _ _ _ _ _ _ _ _ (lit< tt) c.in-485.is tt tt tt tt tt tt tt tt

pub returns-in-486 : goal.returns-in-486
returns-in-486 c = numbers 230 _ _ _ _ _ _ _ _ _ (lit< tt) c.in-486.is tt tt tt tt tt tt tt tt

pub returns-in-487 : goal.returns-in-487
returns-in-487 c = numbers 231 _ _ _ _ _ _ _ _ _ (lit< tt) c.in-487.is tt tt tt tt tt tt tt tt

pub returns-in-488 : goal.returns-in-488
returns-in-488 c = numbers 232 _ _ _ _ _ _ _ _ _ (lit< tt) c.in-488.is tt tt tt tt tt tt tt tt

pub returns-in-489 : goal.returns-in-489
returns-in-489 c = numbers 233 _ _ _ _ _ _ _ _ _ (lit< tt) c.in-489.is tt tt tt tt tt tt tt tt

pub returns-in-490 : goal.returns-in-490
returns-in-490 c = numbers 234 _ _ _ _ _ _ _ _ _ (lit< tt) c.in-490.is tt tt tt tt tt tt tt tt

pub returns-in-491 : goal.returns-in-491
returns-in-491 c = numbers 235 _ _ _ _ _ _ _ _ _ (lit< tt) c.in-491.is tt tt tt tt tt tt tt tt

pub returns-in-492 : goal.returns-in-492
returns-in-492 c = numbers 236 _ _ _ _ _ _ _ _ _ (lit< tt) c.in-492.is tt tt tt tt tt tt tt tt

pub returns-in-493 : goal.returns-in-493
returns-in-493 c = numbers 237 _ _ _ _ _ _ _ _ _ (lit< tt) c.in-493.is tt tt tt tt tt tt tt tt

pub returns-in-494 : goal.returns-in-494
returns-in-494 c = numbers 238 _ _ _ _ _ _ _ _ _ (lit< tt) c.in-494.is tt tt tt tt tt tt tt tt

pub returns-in-495 : goal.returns-in-495
returns-in-495 c = numbers 239 _ _ _ _ _ _ _ _ _ (lit< tt) c.in-495.is tt tt tt tt tt tt tt tt

pub returns-in-496 : goal.returns-in-496
returns-in-496 c = numbers 240 _ _ _ _ _ _ _ _ _ (lit< tt) c.in-496.is tt tt tt tt tt tt tt tt

pub returns-in-497 : goal.returns-in-497
returns-in-497 c = numbers 241 _ _ _ _ _ _ _ _ _ (lit< tt) c.in-497.is tt tt tt tt tt tt tt tt

pub returns-in-498 : goal.returns-in-498
returns-in-498 c = numbers 242 _ _ _ _ _ _ _ _ _ (lit< tt) c.in-498.is tt tt tt tt tt tt tt tt

pub returns-in-499 : goal.returns-in-499
returns-in-499 c = numbers 243 _ _ _ _ _ _ _ _ _ (lit< tt) c.in-499.is tt tt tt tt tt tt tt tt

pub returns-in-500 : goal.returns-in-500
returns-in-500 c = numbers 244 _ _ _ _ _ _ _ _ _ (lit< tt) c.in-500.is tt tt tt tt tt tt tt tt

pub returns-in-501 : goal.returns-in-501
returns-in-501 c = numbers 245 _ _ _ _ _ _ _ _ _ (lit< tt) c.in-501.is tt tt tt tt tt tt tt tt

pub returns-in-502 : goal.returns-in-502
returns-in-502 c = numbers 246 _ _ _ _ _ _ _ _ _ (lit< tt) c.in-502.is tt tt tt tt tt tt tt tt

pub returns-in-503 : goal.returns-in-503
returns-in-503 c = numbers 247 _ _ _ _ _ _ _ _ _ (lit< tt) c.in-503.is tt tt tt tt tt tt tt tt

pub returns-in-504 : goal.returns-in-504
returns-in-504 c = numbers 248 _ _ _ _ _ _ _ _ _ (lit< tt) c.in-504.is tt tt tt tt tt tt tt tt

pub returns-in-505 : goal.returns-in-505
returns-in-505 c = numbers 249 _ _ _ _ _ _ _ _ _ (lit< tt) c.in-505.is tt tt tt tt tt tt tt tt

pub returns-in-506 : goal.returns-in-506
returns-in-506 c = numbers 250 _ _ _ _ _ _ _ _ _ (lit< tt) c.in-506.is tt tt tt tt tt tt tt tt

pub returns-in-507 : goal.returns-in-507
returns-in-507 c = numbers 251 _ _ _ _ _ _ _ _ _ (lit< tt) c.in-507.is tt tt tt tt tt tt tt tt

pub returns-in-508 : goal.returns-in-508
returns-in-508 c = numbers 252 _ _ _ _ _ _ _ _ _ (lit< tt) c.in-508.is tt tt tt tt tt tt tt tt

pub returns-in-509 : goal.returns-in-509
returns-in-509 c = numbers 253 _ _ _ _ _ _ _ _ _ (lit< tt) c.in-509.is tt tt tt tt tt tt tt tt

pub returns-in-510 : goal.returns-in-510
returns-in-510 c = numbers 254 _ _ _ _ _ _ _ _ _ (lit< tt) c.in-510.is tt tt tt tt tt tt tt tt

pub returns-in-511 : goal.returns-in-511
returns-in-511 c = numbers 255 _ _ _ _ _ _ _ _ _ (lit< tt) c.in-511.is tt tt tt tt tt tt tt tt
