-- The two forms of narrowing keep what is asked of a form.
use mathlib.Core.Path.{◌≡◌, subst}
use mathlib.Core.Bool.{true}
use Rattle.format.specs.Format.{All}
use Rattle.format.proofs.Keeping.{keep_passes}
use Rattle.narrowing.specs.Narrowing.{up_to, rising, distinct, first_bad}
use Rattle.narrowing.proofs.Rising.{rising_within}
use Rattle.narrowing.proofs.Distinct.{distinct_within, all_marked, none_listed}
use Rattle.list.specs.Bits.{bit_of}
use Rattle.dictionary.specs.Inner.{Rises, Apart, Taken}

pub rising_taken : Taken rising Rises
rising_taken = record {
  within = rising_within;
  marked = λ count entries bits v l. subst (All (λ e. bit_of bits e ≡ true)) l.has (keep_passes (bit_of bits) (up_to count));
  good = λ count entries bits v l reads z. subst (λ k. first_bad reads k ≡ 0) l.has z;
}

pub distinct_taken : Taken distinct Apart
distinct_taken = record {
  within = distinct_within;
  marked = λ count entries bits v l. all_marked (bit_of bits) count entries (distinct_within count entries v) l.marks.is;
  good = λ count entries bits v l reads z. none_listed (bit_of bits) count entries (distinct_within count entries v) l.marks.is reads z;
}
