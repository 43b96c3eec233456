-- What asking for the boxes of a sign answers.
use Rattle.std.specs.Prelude.{Result as Answer, Ok, Err, ℕ, List}
use Rattle.charset.specs.declared.Charset.{Charset}
use Rattle.token.specs.declared.refusal.Refusal.{Refusal}
use Rattle.token.specs.Refusal.{number_of, place_of}
use Rattle.token.specs.Result.{Result, refusal, done, and_then}
use Rattle.reader.specs.Signs.{sign_of}
use Rattle.bounds.specs.declared.groups.Groups.{Groups}
use Rattle.bounds.specs.declared.centre.Doubled.{Doubled}
use Rattle.bounds.specs.Boxes.{no_groups}
use Rattle.bounds.specs.Sizes.{measured}
use Rattle.bounds.specs.Centre.{doubled_of, half, IsHalf}
use Rattle.geometry.specs.declared.Bounds.{Bounds as Bounded}
use Rattle.geometry.specs.declared.Centre.{Centre}

-- The boxes of head, head with trunk and all, each with whether it has a symbol; and the centre, doubled and by itself: zeros where the
-- call is refused.
pub record Bounds : Type 0 where
  pub number : ℕ
  pub place : ℕ
  pub groups : Groups
  pub doubled : Doubled
  pub centre : Centre

-- the centre of each axis is half of its doubled whole number
abbrev pub answered : ℕ → ℕ → Groups → Doubled → Bounds
answered number place g d = record {
  number = number;
  place = place;
  groups = g;
  doubled = d;
  centre = record { x = half d.x; y = half d.y };
}

abbrev pub bounds_as : Result Groups → Bounds
bounds_as (refusal number place) = answered number place no_groups (record { x = 0; y = 0 })
bounds_as (done g) = answered 0 0 g (doubled_of g)

-- and by the function that makes it: the boxes and the centre, or the refusal
abbrev pub as_bounds : Answer Bounded Refusal → Bounds
as_bounds (Ok b) = record { number = 0; place = 0; groups = b.groups; doubled = b.doubled; centre = b.centre }
as_bounds (Err e) = bounds_as (refusal (number_of e) (place_of e))

-- BOXES: first the reader's refusals, then those of sizes
unfoldable pub bounds_of : Charset → List ℕ → List ℕ → Bounds
bounds_of set text sizes = bounds_as (and_then (sign_of set text) λ m. measured sizes m.symbols)

-- in every answer each f32 is exactly half of its whole number
pub record Exact (r : Bounds) : Type 0 where
  pub x : IsHalf r.centre.x r.doubled.x
  pub y : IsHalf r.centre.y r.doubled.y
