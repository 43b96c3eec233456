-- The starred examples, by computation. The reader, the queries and the verdicts run on the texts as they stand.
use mathlib.Core.Path.{refl}
use borrow.Author.Tests.{eq-eqb}
use lib.ListN.{length}
use Rattle.format.specs.Format.{keep}
use Rattle.charset.specs.Bytes.{digit_of, marker_of, scalar_of}
use Rattle.grammar.specs.Offsets.{steps}
use Rattle.token.specs.Padded.{padded}
use Rattle.symbol.specs.Codes.{code_read, code_text}
use Rattle.reader.specs.Signs.{sign_of}
use Rattle.sign.specs.Reading.{reading_of}
use Rattle.sign.specs.Transcription.{transcription}
use Rattle.stylinggrammar.specs.Styling.{letter, hexadecimal, is_colour, begins_colour}
use Rattle.stylinggrammar.specs.Meaning.{zooms_good, names_good, styles_few}
use Rattle.stylinggrammar.specs.Styled.{dash_at, read_both}
use Rattle.styling.specs.Reading.{styled_of}
use Rattle.styling.specs.Transcription.{styled_transcription}
use Rattle.query.specs.Reading.{query_of}
use Rattle.matching.specs.Meets.{satisfies, satisfies_one, prefix_holds, serves, judged, witnesses_of, verdict_of}
use Rattle.verdict.specs.Verdict.{verdict_on, verdict_in}
use Rattle.bounds.specs.Boxes.{grown_all, groups_of}
use Rattle.bounds.specs.Sizes.{first_unsized, measured}
use Rattle.moving.specs.Moves.{moved_sign, centred_sign, centred_text}
use Rattle.lines.specs.Lines.{bytes_of, lines, ended, line_of}
use Rattle.narrowing.specs.Narrowing.{listed, has, distinct, first_bad}
use Rattle.arrangement.specs.Prefixes.{less_codes, prefix_before}
use Rattle.arrangement.specs.Arranged.{insert, arranged}
use Rattle.books.specs.Sorting.{entry_before, sorted_in}
use Rattle.sorting.specs.Sorting.{sorted}
use Rattle.starred.specs.Starred.{StarredRows, OtherRows, NumberRows, CentringRows, OffsetRows, StylingRows, EditionRows, SortingRows}

pub starred : StarredRows
unfolding code_read code_text digit_of marker_of sign_of query_of verdict_in verdict_on verdict_of prefix_holds satisfies satisfies_one judged witnesses_of serves centred_text centred_sign measured first_unsized groups_of keep grown_all moved_sign
starred = record {
  S10019 = refl;
  S2ea04 = refl;
  S38b5f = refl;
  U40001 = refl;
  empty_sign = (refl, refl);
  M749x750 = refl;
  M500x500S37f00500x500 = refl;
  QAS100uuT = refl;
  QS100uu490x505 = refl;
  QS100uu490x506 = refl;
  QR204t100 = refl;
  centred = λ sizes n a b. rw (eq-eqb (length sizes) 125184 n, a.width, a.height, b.width, b.height);
  centred_by_groups = λ sizes n a b. rw (eq-eqb (length sizes) 125184 n, a.width, a.height, b.width, b.height);
}

pub others : OtherRows
unfolding code_read digit_of marker_of sign_of query_of verdict_in verdict_on verdict_of prefix_holds satisfies satisfies_one judged witnesses_of serves
others = record {
  S38c00 = refl;
  U1D803 = refl;
  M250x25 = refl;
  QAS20500T = refl;
  QS100uu490x505V19 = refl;
  QS100uuS100uu = refl;
  QAT = refl;
  QS20500S10000 = refl;
  QTR101t205 = refl;
  QT = refl;
  QAR100t38bT = refl;
}

pub numbers : NumberRows
unfolding digit_of marker_of sign_of query_of
numbers = record {
  M75 = refl;
  M74 = refl;
  M24 = refl;
  M8 = refl;
  M74y = refl;
  M749y = refl;
  M500x5000 = refl;
  QS10000750x500 = refl;
  QS1000060x = refl;
  QS100006 = refl;
  QS10000S9 = refl;
  QV1234 = refl;
}

pub centrings : CentringRows
unfolding centred_text sign_of digit_of marker_of centred_sign measured first_unsized groups_of keep grown_all moved_sign
centrings = record {
  both = λ sizes n a b c. rw (eq-eqb (length sizes) 125184 n, a.width, a.height, b.width, b.height, c.width, c.height);
  trunk = λ sizes n a b. rw (eq-eqb (length sizes) 125184 n, a.width, a.height, b.width, b.height);
  head = λ sizes n a b. rw (eq-eqb (length sizes) 125184 n, a.width, a.height, b.width, b.height);
}

pub offsets : OffsetRows
unfolding digit_of marker_of scalar_of sign_of reading_of transcription padded steps
offsets = record {
  transcribed = refl;
  prefix = refl;
  symbols = refl;
  prefix_in_swu = refl;
  symbols_in_swu = refl;
  no_prefix = refl;
  no_prefix_in_swu = refl;
  refused = (refl, refl);
}

pub stylings : StylingRows
unfolding digit_of marker_of scalar_of sign_of letter hexadecimal is_colour begins_colour zooms_good names_good styles_few dash_at read_both styled_of styled_transcription
stylings = record {
  all = refl;
  undashed = refl;
  dash = refl;
  dashes = refl;
  extendable = refl;
  zoom_first = refl;
  offset = refl;
  classes = refl;
  not_hexadecimal = refl;
  named = refl;
  point_last = refl;
  zero = refl;
  hundred = refl;
  third_decimal = refl;
  small = refl;
  leading_zero = refl;
  present = refl;
  long_name = refl;
  zoom_before_name = refl;
  many_styles = refl;
  zoom_before_prefix = refl;
  long_prefix = refl;
  in_number = refl;
  extendable_in_swu = refl;
  undashed_in_swu = refl;
  one_byte_more = refl;
  early = refl;
  early_and_cut = refl;
  transcribed = refl;
  plain = refl;
  plain_in_group = refl;
  plain_in_less = refl;
}

pub editions : EditionRows
unfolding digit_of marker_of scalar_of sign_of query_of verdict_in verdict_on verdict_of prefix_holds satisfies satisfies_one judged witnesses_of serves
editions = record {
  QS10000oS20500500x500 = refl;
  QS10000500x500oS20500 = refl;
  QS10000o = refl;
  QAS00000T = refl;
  QS00000 = refl;
  QAS00000oS10000T = refl;
  QAS0000uT = refl;
  QAR000t100T = refl;
  QS10000oS20500750x500 = refl;
  QS10000oR204t100 = refl;
  QV1234 = refl;
  dash = refl;
  nine = refl;
  nine_in_prefix = refl;
  nine_before_range = refl;
  prefix_before_nine = refl;
  signbox_before_nine = refl;
  first_joined = refl;
  first_null = refl;
  beyond = refl;
  cut = refl;
  marks_crossed = refl;
  number_beyond = refl;
  one_number = refl;
  null_in_signbox = refl;
  null_marked = refl;
  null_in_range = refl;
  marked = refl;
  null_and_range = refl;
  reversed = refl;
  key_in_swu = refl;
  character_in_fsw = refl;
  mixed = refl;
  QS37e00oS20500 = refl;
  QS20500oS10000 = refl;
  QS37e00oS37d00 = refl;
  QS10000oS20500500x495V10 = refl;
  QS10000oS20500500x495V9 = refl;
  QS10000oS20500500x505V9 = refl;
  eight = refl;
  null_sought = refl;
  null_or_other = refl;
  other_or_null = refl;
  no_null = refl;
  null_in_no_range = refl;
  fsw_of_swu = refl;
  swu_of_fsw = refl;
  swu_of_swu = refl;
  own_fill = refl;
  any_fill = refl;
  own_rotation = refl;
  any_rotation = refl;
  bases = refl;
  near_in_swu = refl;
  far_in_swu = refl;
}

pub sortings : SortingRows
unfolding bytes_of lines ended line_of sign_of digit_of marker_of sorted sorted_in listed has distinct first_bad entry_before prefix_before less_codes insert arranged
sortings = record { six = refl; spare = refl; twice = refl; absent = refl; beyond = refl; short = refl }
