-- The numbers of the rules, as they are printed.
use Rattle.std.specs.Prelude.{ℕ}
use Rattle.lf_base.specs.declared.rule.Rule.{Rule}
use Rattle.lf_base.specs.declared.rule.Rule.TheVariants.{E101, E102, E103, E104, E105, E106, E107, E108, E201, E202, E203, E204, E205, E206, E301, E302, E303, E304, E305, E306, E307, E308, E401, E402, E403, E404, E405, E406, E407, E408, E409, E410, E411, E412, E413, E414, E415, E416, E417}

abbrev pub number_of : Rule → ℕ
number_of E101 = 101
number_of E102 = 102
number_of E103 = 103
number_of E104 = 104
number_of E105 = 105
number_of E106 = 106
number_of E107 = 107
number_of E108 = 108
number_of E201 = 201
number_of E202 = 202
number_of E203 = 203
number_of E204 = 204
number_of E205 = 205
number_of E206 = 206
number_of E301 = 301
number_of E302 = 302
number_of E303 = 303
number_of E304 = 304
number_of E305 = 305
number_of E306 = 306
number_of E307 = 307
number_of E308 = 308
number_of E401 = 401
number_of E402 = 402
number_of E403 = 403
number_of E404 = 404
number_of E405 = 405
number_of E406 = 406
number_of E407 = 407
number_of E408 = 408
number_of E409 = 409
number_of E410 = 410
number_of E411 = 411
number_of E412 = 412
number_of E413 = 413
number_of E414 = 414
number_of E415 = 415
number_of E416 = 416
number_of E417 = 417
