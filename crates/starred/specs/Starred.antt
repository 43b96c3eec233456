-- The worked examples that document 01 marks with a star, as one statement about the definitions that the contracts cite.
-- The place in M749x750 is that of document 02, Q-5, and the second centred sign is that of its Q-4.
use Rattle.std.specs.Prelude.{ℕ, ◌≡◌, List, [], ◌∷◌, ◌++◌, length, take, replicate}
use Rattle.std.proofs.Math.Option.{none, some}
use Rattle.charset.specs.declared.Charset.{Charset}
use Rattle.charset.specs.declared.Charset.TheVariants.{Fsw, Swu}
use Rattle.charset.specs.Bytes.{ascii, utf8}
use Rattle.grammar.specs.Sign.{sign_text}
use Rattle.token.specs.Result.{Result, refusal, done, on_done}
use Rattle.token.specs.Padded.{zeros}
use Rattle.symbol.specs.Codes.{code_read, code_text}
use Rattle.reader.specs.Signs.{sign_of}
use Rattle.sign.specs.Reading.{reading_in}
use Rattle.sign.specs.Transcription.{transcription}
use Rattle.stylinggrammar.specs.Meaning.{meaning, styling_text}
use Rattle.styling.specs.Reading.{styled_of}
use Rattle.styling.specs.Transcription.{styled_transcription}
use Rattle.querygrammar.specs.declared.Edition.TheVariants.{First, Second}
use Rattle.querygrammar.specs.Spelling.{key_item, range_item, null_item}
use Rattle.querygrammar.specs.Query.{free, begins}
use Rattle.query.specs.Reading.{query_of}
use Rattle.matching.specs.Meets.{unmet, met, answered}
use Rattle.verdict.specs.Verdict.{verdict_in}
use Rattle.bounds.specs.Boxes.{width_of, height_of}
use Rattle.moving.specs.Moves.{centred_text}
use Rattle.lines.specs.Lines.{bytes_of}
use Rattle.books.specs.Sorting.{list_after, spare_after}
use Rattle.sorting.specs.Sorting.{sorted}

abbrev pub K : List ℕ
K = ascii "AS10000S20500M510x515S10000490x485S20500500x495"

-- the size list gives this width and height to a code
pub record SizeOf (sizes : List ℕ) (code w h : ℕ) : Type 0 where
  pub width : width_of sizes code ≡ w
  pub height : height_of sizes code ≡ h

-- S10000 is code 1, S20500 is 25057, S2ff00 is 49057 and S36d00 is 59617
pub record StarredRows : Type 0 where
  pub S10019 : code_read Fsw (ascii "S10019") ≡ record { number = 0; place = 0; code = 26 }
  pub S2ea04 : code_read Fsw (ascii "S2ea04") ≡ record { number = 0; place = 0; code = 47045 }
  pub S38b5f : code_read Fsw (ascii "S38b5f") ≡ record { number = 0; place = 0; code = 62592 }
  pub U40001 : code_text Swu 1 ≡ done (0xf1 ∷ 0x80 ∷ 0x80 ∷ 0x81 ∷ [])
  pub empty_sign : (sign_of Fsw [] ≡ refusal 2 0) × (sign_of Swu [] ≡ refusal 2 0)
  pub M749x750 : sign_of Fsw (ascii "M749x750") ≡ refusal 1 5
  pub M500x500S37f00500x500 : sign_of Fsw (ascii "M500x500S37f00500x500") ≡ refusal 1 11
  pub QAS100uuT : verdict_in Fsw (First, ascii "QAS100uuT") K ≡ answered (met [])
  pub QS100uu490x505 : verdict_in Fsw (First, ascii "QS100uu490x505") K ≡ answered (met (1 ∷ []))
  pub QS100uu490x506 : verdict_in Fsw (First, ascii "QS100uu490x506") K ≡ answered (unmet 1)
  pub QR204t100 : query_of First (ascii "QR204t100") ≡ refusal 5 1
  pub centred : (sizes : List ℕ) → length sizes ≡ 125184 → SizeOf sizes 1 15 30 → SizeOf sizes 25057 10 10
      → centred_text Fsw (ascii "M520x515S10000490x490S20500500x500") sizes ≡ done (ascii "M510x515S10000490x485S20500500x495")
  pub centred_by_groups : (sizes : List ℕ) → length sizes ≡ 125184 → SizeOf sizes 49057 36 36 → SizeOf sizes 59617 60 20
      → centred_text Fsw (ascii "M540x540S2ff00482x483S36d00470x520") sizes ≡ done (ascii "M530x529S2ff00482x472S36d00470x509")

-- the other examples of the sheet whose answers are stated, and four of the null symbol, of T and of ranges
pub record OtherRows : Type 0 where
  pub S38c00 : code_read Fsw (ascii "S38c00") ≡ record { number = 1; place = 3; code = 0 }
  pub U1D803 : sign_text Swu (record { prefix = []; marker = 3; x = 250; y = 250; symbols = [] }) ≡ 0xf0 ∷ 0x9d ∷ 0xa0 ∷ 0x83 ∷ (utf8 0x1d80c ++ utf8 0x1d80c)
  pub M250x25 : sign_of Fsw (ascii "M250x25") ≡ refusal 2 7
  pub QAS20500T : verdict_in Fsw (First, ascii "QAS20500T") K ≡ answered (unmet 0)
  pub QS100uu490x505V19 : verdict_in Fsw (First, ascii "QS100uu490x505V19") K ≡ answered (unmet 1)
  pub QS100uuS100uu : verdict_in Fsw (First, ascii "QS100uuS100uu") K ≡ answered (met (1 ∷ 1 ∷ []))
  pub QAT : query_of First (ascii "QAT") ≡ refusal 1 2
  pub QS20500S10000 : verdict_in Fsw (First, ascii "QS20500S10000") K ≡ answered (met (2 ∷ 1 ∷ []))
  pub QTR101t205 : verdict_in Fsw (First, ascii "QTR101t205") K ≡ answered (met (2 ∷ []))
  pub QT : verdict_in Fsw (First, ascii "QT") (ascii "M500x500") ≡ answered (unmet 0)
  pub QAR100t38bT : verdict_in Fsw (First, ascii "QAR100t38bT") (ascii "AS00000M500x500") ≡ answered (unmet 0)

-- the places of numbers, and of what is none (document 02, Q-5)
pub record NumberRows : Type 0 where
  pub M75 : sign_of Fsw (ascii "M75") ≡ refusal 1 1
  pub M74 : sign_of Fsw (ascii "M74") ≡ refusal 2 3
  pub M24 : sign_of Fsw (ascii "M24") ≡ refusal 1 1
  pub M8 : sign_of Fsw (ascii "M8") ≡ refusal 1 1
  pub M74y : sign_of Fsw (ascii "M74y") ≡ refusal 1 1
  pub M749y : sign_of Fsw (ascii "M749y") ≡ refusal 1 4
  pub M500x5000 : sign_of Fsw (ascii "M500x5000") ≡ refusal 1 8
  pub QS10000750x500 : query_of First (ascii "QS10000750x500") ≡ refusal 1 7
  pub QS1000060x : query_of First (ascii "QS1000060x") ≡ refusal 1 7
  pub QS100006 : query_of First (ascii "QS100006") ≡ refusal 2 8
  pub QS10000S9 : query_of First (ascii "QS10000S9") ≡ refusal 1 8
  pub QV1234 : query_of First (ascii "QV1234") ≡ refusal 1 5

-- head and trunk, a trunk without head, and a head without trunk, each beside a hand (document 02, Q-4)
pub record CentringRows : Type 0 where
  pub both : (sizes : List ℕ) → length sizes ≡ 125184 → SizeOf sizes 49057 36 36 → SizeOf sizes 59617 60 20 → SizeOf sizes 1 15 30
      → centred_text Fsw (ascii "M560x560S2ff00490x483S36d00480x520S10000545x530") sizes ≡ done (ascii "M552x549S2ff00482x472S36d00472x509S10000537x519")
  pub trunk : (sizes : List ℕ) → length sizes ≡ 125184 → SizeOf sizes 59617 60 20 → SizeOf sizes 1 15 30
      → centred_text Fsw (ascii "M535x540S36d00470x520S10000520x470") sizes ≡ done (ascii "M533x510S36d00468x490S10000518x440")
  pub head : (sizes : List ℕ) → length sizes ≡ 125184 → SizeOf sizes 49057 36 36 → SizeOf sizes 1 15 30
      → centred_text Fsw (ascii "M550x560S2ff00490x480S10000535x530") sizes ≡ done (ascii "M542x562S2ff00482x482S10000527x532")

-- K in SWU: A, its two symbols; M, its maximum; each symbol with its coordinate
abbrev pub KInSwu : List ℕ
KInSwu =
    utf8 0x1d800 ++ (utf8 0x40001 ++ (utf8 0x461e1
    ++ (utf8 0x1d803 ++ (utf8 0x1d910 ++ (utf8 0x1d915
    ++ (utf8 0x40001 ++ (utf8 0x1d8fc ++ (utf8 0x1d8f7
    ++ (utf8 0x461e1 ++ (utf8 0x1d906 ++ utf8 0x1d901))))))))))

-- where symbols stand, zeros in unused places, and zeros where the text is refused (document 02, Q-8)
pub record OffsetRows : Type 0 where
  pub transcribed : transcription Fsw K ≡ done KInSwu
  pub prefix : (reading_in Fsw K).sign.prefix_offsets ≡ 1 ∷ 7 ∷ zeros 30
  pub symbols : (reading_in Fsw K).sign.symbol_offsets ≡ 21 ∷ 34 ∷ zeros 62
  pub prefix_in_swu : (reading_in Swu KInSwu).sign.prefix_offsets ≡ 4 ∷ 8 ∷ zeros 30
  pub symbols_in_swu : (reading_in Swu KInSwu).sign.symbol_offsets ≡ 24 ∷ 36 ∷ zeros 62
  pub no_prefix : (reading_in Fsw (ascii "M500x500S10000500x500")).sign.symbol_offsets ≡ 8 ∷ zeros 63
  pub no_prefix_in_swu : (reading_in Swu (utf8 0x1d803 ++ (utf8 0x1d906 ++ (utf8 0x1d906 ++ (utf8 0x40001 ++ (utf8 0x1d906 ++ utf8 0x1d906)))))).sign.symbol_offsets ≡ 12 ∷ zeros 63
  pub refused : ((reading_in Fsw (ascii "M749x750")).sign.prefix_offsets ≡ zeros 32) × ((reading_in Fsw (ascii "M749x750")).sign.symbol_offsets ≡ zeros 64)

-- M500x500 in SWU
abbrev pub plain_in_swu : List ℕ
plain_in_swu = utf8 0x1d803 ++ (utf8 0x1d906 ++ utf8 0x1d906)

-- the shortest spelling of the styling of a text
abbrev pub respelled : Charset → List ℕ → Result (List ℕ)
respelled set text = on_done (λ p. styling_text (meaning p.1)) (styled_of set text)

-- stylings: what is refused and where, and how they are spelled again (document 02, Q-1)
pub record StylingRows : Type 0 where
  pub all : respelled Fsw (ascii "M500x500S10000490x485-CP05G_lightblue_D_red,0f0_Z1.50-D01_red_Z01,2.00") ≡ done (ascii "-CP05G_lightblue_D_red,0f0_Z1.5-D01_red_Z01,2")
  pub undashed : styled_of Fsw (ascii "M500x500") ≡ refusal 2 8
  pub dash : respelled Fsw (ascii "M500x500-") ≡ done (ascii "-")
  pub dashes : respelled Fsw (ascii "M500x500--") ≡ done (ascii "-")
  pub extendable : styled_of Fsw (ascii "M500x500-Zx") ≡ refusal 1 10
  pub zoom_first : styled_of Fsw (ascii "M500x500--Z01,2D01_red_") ≡ refusal 1 15
  pub offset : styled_of Fsw (ascii "M500x500--Z04,1.5,480x500") ≡ refusal 1 17
  pub classes : styled_of Fsw (ascii "M500x500---glowing!") ≡ refusal 1 10
  pub not_hexadecimal : styled_of Fsw (ascii "M500x500-G_f00g_") ≡ refusal 1 14
  pub named : respelled Fsw (ascii "M500x500-G_fffg_") ≡ done (ascii "-G_fffg_")
  pub point_last : styled_of Fsw (ascii "M500x500-Z1.") ≡ refusal 2 12
  pub zero : styled_of Fsw (ascii "M500x500-Z0") ≡ refusal 17 0
  pub hundred : styled_of Fsw (ascii "M500x500-Z100") ≡ refusal 17 0
  pub third_decimal : styled_of Fsw (ascii "M500x500-Z1.500") ≡ refusal 17 0
  pub small : styled_of Fsw (ascii "M500x500-Z0.005") ≡ refusal 17 0
  pub leading_zero : respelled Fsw (ascii "M500x500-Z099.99") ≡ done (ascii "-Z99.99")
  pub present : respelled Fsw (ascii "M500x500-P00Z1") ≡ done (ascii "-P00Z1")
  pub long_name : styled_of Fsw (ascii "M500x500-G_abcdefghijklmnopqrstuvwxy_") ≡ refusal 18 0
  pub zoom_before_name : styled_of Fsw (ascii "M500x500-G_abcdefghijklmnopqrstuvwxy_Z0") ≡ refusal 17 0
  pub many_styles : styled_of Fsw (ascii "M500x500--Z01,1Z01,1Z01,1Z01,1Z01,1Z01,1Z01,1Z01,1Z01,1Z01,1Z01,1Z01,1Z01,1Z01,1Z01,1Z01,1Z01,1Z01,1Z01,1Z01,1Z01,1Z01,1Z01,1Z01,1Z01,1Z01,1Z01,1Z01,1Z01,1Z01,1Z01,1Z01,1Z01,1Z01,1Z01,1Z01,1Z01,1Z01,1Z01,1Z01,1Z01,1Z01,1Z01,1Z01,1Z01,1Z01,1Z01,1Z01,1Z01,1Z01,1Z01,1Z01,1Z01,1Z01,1Z01,1Z01,1Z01,1Z01,1Z01,1Z01,1Z01,1Z01,1Z01,1Z01,1Z01,1") ≡ refusal 19 0
  pub zoom_before_prefix : styled_of Fsw (ascii "AS10000S10000S10000S10000S10000S10000S10000S10000S10000S10000S10000S10000S10000S10000S10000S10000S10000S10000S10000S10000S10000S10000S10000S10000S10000S10000S10000S10000S10000S10000S10000S10000S10000M500x500-Z0") ≡ refusal 17 0
  pub long_prefix : styled_of Fsw (ascii "AS10000S10000S10000S10000S10000S10000S10000S10000S10000S10000S10000S10000S10000S10000S10000S10000S10000S10000S10000S10000S10000S10000S10000S10000S10000S10000S10000S10000S10000S10000S10000S10000S10000M500x500-") ≡ refusal 3 0
  pub in_number : styled_of Fsw (ascii "M749x750-Z0") ≡ refusal 1 5
  pub extendable_in_swu : styled_of Swu (plain_in_swu ++ ascii "-Zx") ≡ refusal 1 14
  pub undashed_in_swu : styled_of Swu plain_in_swu ≡ refusal 2 12
  pub one_byte_more : styled_of Swu (plain_in_swu ++ ascii "+") ≡ refusal 2 13
  pub early : styled_of Swu (take 8 plain_in_swu ++ ascii "-Zx1") ≡ refusal 1 8
  pub early_and_cut : styled_of Swu (take 8 plain_in_swu ++ ascii "-Zx") ≡ refusal 2 11
  pub transcribed : styled_transcription Fsw (ascii "M500x500-Z1.50") ≡ done (plain_in_swu ++ ascii "-Z1.50")
  pub plain : sign_of Fsw (ascii "M500x500-") ≡ refusal 1 8
  pub plain_in_group : sign_of Swu (plain_in_swu ++ ascii "-Z1x") ≡ refusal 1 12
  pub plain_in_less : sign_of Swu (plain_in_swu ++ ascii "-") ≡ refusal 2 13

-- queries of the second edition: alternatives, null in the prefix, and SWU (document 02, Q-9)
pub record EditionRows : Type 0 where
  pub QS10000oS20500500x500 : query_of (Second Fsw) (ascii "QS10000oS20500500x500") ≡ done (record { prefix = free; items = record { alternatives = key_item 0x100 (some 0) (some 0) ∷ key_item 0x205 (some 0) (some 0) ∷ []; coordinate = some (500, 500) } ∷ []; variance = 20 })
  pub QS10000500x500oS20500 : query_of (Second Fsw) (ascii "QS10000500x500oS20500") ≡ refusal 1 14
  pub QS10000o : query_of (Second Fsw) (ascii "QS10000o") ≡ refusal 2 8
  pub QAS00000T : query_of (Second Fsw) (ascii "QAS00000T") ≡ done (record { prefix = begins ((null_item ∷ []) ∷ []); items = []; variance = 20 })
  pub QS00000 : query_of (Second Fsw) (ascii "QS00000") ≡ refusal 1 2
  pub QAS00000oS10000T : query_of (Second Fsw) (ascii "QAS00000oS10000T") ≡ done (record { prefix = begins ((null_item ∷ key_item 0x100 (some 0) (some 0) ∷ []) ∷ []); items = []; variance = 20 })
  pub QAS0000uT : query_of (Second Fsw) (ascii "QAS0000uT") ≡ refusal 1 7
  pub QAR000t100T : query_of (Second Fsw) (ascii "QAR000t100T") ≡ refusal 1 3
  pub QS10000oS20500750x500 : query_of (Second Fsw) (ascii "QS10000oS20500750x500") ≡ refusal 1 14
  pub QS10000oR204t100 : query_of (Second Fsw) (ascii "QS10000oR204t100") ≡ refusal 5 8
  pub QV1234 : query_of (Second Fsw) (ascii "QV1234") ≡ refusal 1 5
  pub dash : query_of (Second Fsw) (ascii "QS10000-") ≡ refusal 1 7
  pub nine : query_of (Second Fsw) (ascii "QS10000oS10000oS10000oS10000oS10000oS10000oS10000oS10000oS10000") ≡ refusal 22 0
  pub nine_in_prefix : query_of (Second Fsw) (ascii "QAS10000oS10000oS10000oS10000oS10000oS10000oS10000oS10000oS10000T") ≡ refusal 22 0
  pub nine_before_range : query_of (Second Fsw) (ascii "QS10000oS10000oS10000oS10000oS10000oS10000oS10000oS10000oR204t100") ≡ refusal 22 0
  pub prefix_before_nine : query_of (Second Fsw) (ascii "QAS10000S10000S10000S10000S10000S10000S10000S10000S10000S10000S10000S10000S10000S10000S10000S10000S10000S10000S10000S10000S10000S10000S10000S10000S10000S10000S10000S10000S10000S10000S10000S10000S10000oS10000oS10000oS10000oS10000oS10000oS10000oS10000oS10000T") ≡ refusal 3 0
  pub signbox_before_nine : query_of (Second Fsw) (ascii "QS10000S10000S10000S10000S10000S10000S10000S10000S10000S10000S10000S10000S10000S10000S10000S10000S10000S10000S10000S10000S10000S10000S10000S10000S10000S10000S10000S10000S10000S10000S10000S10000S10000oS10000oS10000oS10000oS10000oS10000oS10000oS10000oS10000") ≡ refusal 4 0
  pub first_joined : query_of First (ascii "QS10000oS20500") ≡ refusal 1 7
  pub first_null : query_of First (ascii "QAS00000T") ≡ refusal 1 3
  -- in SWU: S10000 is U+40001, S10001 is U+40002, S10010 is U+40011, S10011 is U+40012 and S20500 is U+461E1
  pub beyond : query_of (Second Swu) (ascii "Q" ++ utf8 0x4f481) ≡ refusal 1 4
  pub cut : query_of (Second Swu) (ascii "Q" ++ (0xf1 ∷ 0x80 ∷ [])) ≡ refusal 2 3
  pub marks_crossed : query_of (Second Swu) (ascii "Q" ++ (utf8 0x40001 ++ ascii "rf")) ≡ refusal 1 6
  pub number_beyond : query_of (Second Swu) (ascii "Q" ++ (utf8 0x40001 ++ utf8 0x1da00)) ≡ refusal 1 7
  pub one_number : query_of (Second Swu) (ascii "Q" ++ (utf8 0x40001 ++ utf8 0x1d906)) ≡ refusal 2 9
  pub null_in_signbox : query_of (Second Swu) (ascii "Q" ++ utf8 0x40000) ≡ refusal 1 4
  pub null_marked : query_of (Second Swu) (ascii "QA" ++ (utf8 0x40000 ++ ascii "fT")) ≡ refusal 1 6
  pub null_in_range : query_of (Second Swu) (ascii "QR" ++ (utf8 0x40000 ++ utf8 0x40001)) ≡ refusal 1 5
  pub marked : query_of (Second Swu) (ascii "Q" ++ (utf8 0x40012 ++ (ascii "fo" ++ (utf8 0x40012 ++ (ascii "ro" ++ (utf8 0x40012 ++ (ascii "fr" ++ (utf8 0x1d906 ++ utf8 0x1d8fc)))))))) ≡ done (record { prefix = free; items = record { alternatives = key_item 0x100 none (some 1) ∷ key_item 0x100 (some 1) none ∷ key_item 0x100 none none ∷ []; coordinate = some (500, 490) } ∷ []; variance = 20 })
  pub null_and_range : query_of (Second Swu) (ascii "QA" ++ (utf8 0x40000 ++ (ascii "oR" ++ (utf8 0x40002 ++ (utf8 0x40001 ++ ascii "TV19"))))) ≡ done (record { prefix = begins ((null_item ∷ range_item 0x100 0x100 ∷ []) ∷ []); items = []; variance = 19 })
  pub reversed : query_of (Second Swu) (ascii "QR" ++ (utf8 0x461e1 ++ utf8 0x40001)) ≡ refusal 5 1
  pub key_in_swu : query_of (Second Swu) (ascii "QS10000") ≡ refusal 1 1
  pub character_in_fsw : query_of (Second Fsw) (ascii "Q" ++ utf8 0x40001) ≡ refusal 1 1
  pub mixed : query_of (Second Swu) (ascii "Q" ++ (utf8 0x40001 ++ ascii "oS20500")) ≡ refusal 1 6
  -- verdicts: the witness is the first symbol that an alternative fits; query and sign may differ in character set
  pub QS37e00oS20500 : verdict_in Fsw (Second Fsw, ascii "QS37e00oS20500") K ≡ answered (met (2 ∷ []))
  pub QS20500oS10000 : verdict_in Fsw (Second Fsw, ascii "QS20500oS10000") K ≡ answered (met (1 ∷ []))
  pub QS37e00oS37d00 : verdict_in Fsw (Second Fsw, ascii "QS37e00oS37d00") K ≡ answered (unmet 1)
  pub QS10000oS20500500x495V10 : verdict_in Fsw (Second Fsw, ascii "QS10000oS20500500x495V10") K ≡ answered (met (1 ∷ []))
  pub QS10000oS20500500x495V9 : verdict_in Fsw (Second Fsw, ascii "QS10000oS20500500x495V9") K ≡ answered (met (2 ∷ []))
  pub QS10000oS20500500x505V9 : verdict_in Fsw (Second Fsw, ascii "QS10000oS20500500x505V9") K ≡ answered (unmet 1)
  pub eight : verdict_in Fsw (Second Fsw, ascii "QS37e00oS37e00oS37e00oS37e00oS37e00oS37e00oS37e00oS20500") K ≡ answered (met (2 ∷ []))
  pub null_sought : verdict_in Fsw (Second Fsw, ascii "QAS00000T") (ascii "AS00000M500x500") ≡ answered (met [])
  pub null_or_other : verdict_in Fsw (Second Fsw, ascii "QAS00000oS10000T") (ascii "AS00000M500x500") ≡ answered (met [])
  pub other_or_null : verdict_in Fsw (Second Fsw, ascii "QAS00000oS10000T") K ≡ answered (met [])
  pub no_null : verdict_in Fsw (Second Fsw, ascii "QAS00000T") K ≡ answered (unmet 0)
  pub null_in_no_range : verdict_in Fsw (Second Fsw, ascii "QAR100t38bT") (ascii "AS00000M500x500") ≡ answered (unmet 0)
  pub fsw_of_swu : verdict_in Swu (Second Fsw, ascii "QS37e00oS20500") KInSwu ≡ answered (met (2 ∷ []))
  pub swu_of_fsw : verdict_in Fsw (Second Swu, ascii "Q" ++ utf8 0x461e1) K ≡ answered (met (2 ∷ []))
  pub swu_of_swu : verdict_in Swu (Second Swu, ascii "Q" ++ utf8 0x461e1) KInSwu ≡ answered (met (2 ∷ []))
  pub own_fill : verdict_in Fsw (Second Swu, ascii "Q" ++ utf8 0x40011) K ≡ answered (unmet 1)
  pub any_fill : verdict_in Fsw (Second Swu, ascii "Q" ++ (utf8 0x40011 ++ ascii "f")) K ≡ answered (met (1 ∷ []))
  pub own_rotation : verdict_in Fsw (Second Swu, ascii "Q" ++ utf8 0x40002) K ≡ answered (unmet 1)
  pub any_rotation : verdict_in Fsw (Second Swu, ascii "Q" ++ (utf8 0x40002 ++ ascii "r")) K ≡ answered (met (1 ∷ []))
  pub bases : verdict_in Fsw (Second Swu, ascii "QR" ++ (utf8 0x40002 ++ utf8 0x40001)) K ≡ answered (met (1 ∷ []))
  pub near_in_swu : verdict_in Fsw (Second Swu, ascii "Q" ++ (utf8 0x40001 ++ (ascii "fr" ++ (utf8 0x1d8fc ++ utf8 0x1d90b)))) K ≡ answered (met (1 ∷ []))
  pub far_in_swu : verdict_in Fsw (Second Swu, ascii "Q" ++ (utf8 0x40001 ++ (ascii "fr" ++ (utf8 0x1d8fc ++ utf8 0x1d90c)))) K ≡ answered (unmet 1)

-- document 02, Q-12: lines 1 to 6 have no prefix, S20500, S10000 and S20500, S10000, null, S10000
abbrev pub six_words : List ℕ
six_words = bytes_of (ascii "M500x500" ∷ ascii "AS20500M500x500" ∷ ascii "AS10000S20500M500x500" ∷ ascii "AS10000M500x500" ∷ ascii "AS00000M500x500" ∷ ascii "AS10000M500x500" ∷ [])

abbrev pub six_listed : List ℕ
six_listed = 1 ∷ 2 ∷ 3 ∷ 4 ∷ 5 ∷ 6 ∷ 77 ∷ []

pub record SortingRows : Type 0 where
  pub six : list_after six_listed 6 (sorted Fsw six_words six_listed 6 (replicate 8 9)) ≡ 5 ∷ 4 ∷ 6 ∷ 3 ∷ 2 ∷ 1 ∷ 77 ∷ []
  pub spare : spare_after (replicate 8 9) 6 (sorted Fsw six_words six_listed 6 (replicate 8 9)) ≡ 0 ∷ 0 ∷ 0 ∷ 0 ∷ 0 ∷ 0 ∷ 9 ∷ 9 ∷ []
  pub twice : sorted Fsw six_words (1 ∷ 2 ∷ 3 ∷ 2 ∷ []) 4 (replicate 8 9) ≡ refusal 11 0
  pub absent : sorted Fsw six_words (1 ∷ 7 ∷ []) 2 (replicate 8 9) ≡ refusal 11 0
  pub beyond : sorted Fsw six_words (1 ∷ 2 ∷ []) 3 (replicate 8 9) ≡ refusal 11 0
  pub short : sorted Fsw six_words (3 ∷ 1 ∷ 2 ∷ []) 3 (replicate 2 9) ≡ refusal 6 3
