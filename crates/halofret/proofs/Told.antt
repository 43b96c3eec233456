-- Answers whose value lies elsewhere, or that have none.
use mathlib.Core.List.{List}
use Prim.Native.Nat.{ℕ}
use mathlib.Core.Path.{◌≡◌, refl}
use Rattle.std.specs.Prelude.{Result as Answer, Ok, Err}
use Rattle.token.specs.declared.refusal.Refusal.{Refusal}
use Rattle.query.specs.Reading.{as_reading}
use Rattle.sorting.specs.Sorting.{as_sorted}
use Rattle.layout.specs.Layouts.{told_numbers, query_numbers}
use Rattle.layout.specs.Dictionaries.{sorted_numbers}

pub told_query : (r : Answer (List ℕ) Refusal) → told_numbers r ≡ query_numbers (as_reading r)
told_query (Ok words) = refl
told_query (Err e) = refl

pub told_sort : (r : Answer (Unit {0}) Refusal) → told_numbers r ≡ sorted_numbers (as_sorted r)
told_sort (Ok nothing) = refl
told_sort (Err e) = refl
