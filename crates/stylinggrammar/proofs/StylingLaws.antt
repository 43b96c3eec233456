-- The laws of styling strings.
use Prim.Native.Nat.{ℕ, ◌≤◌}
use mathlib.Core.List.{List}
use mathlib.Core.Path.{◌≡◌, refl, sym, ap, subst, ◌∙◌}
use mathlib.Core.Logic.{◌↔◌}
use lib.ListN.{length}
use Rattle.format.specs.Places.{fine, reading, ByBytes}
use Rattle.format.proofs.Reading.{fine_exactly}
use Rattle.format.proofs.Places.{by_bytes}
use Rattle.stylinggrammar.specs.Styling.{Spelling, styling}
use Rattle.stylinggrammar.specs.Meaning.{Styling, meaning, Valid, spelled, styling_text}
use Rattle.stylinggrammar.specs.StylingLaws.{Reads, StylingLaws}
use Rattle.stylinggrammar.proofs.Styling.{styling_exact, styling_lawful, styling_ready}
use Rattle.stylinggrammar.proofs.Spellings.{spelled_means, spelled_valid, spelled_accepted, meaning_valid}
use Rattle.stylinggrammar.proofs.Shortest.{meaning_shortest, spelled_same}

pub styling_fines : (text : List ℕ) (t : Spelling) → (reading 1 styling text ≡ fine t) ↔ (styling.Valid t × (text ≡ styling.write t))
styling_fines = fine_exactly 1 styling styling_lawful styling_ready

pub styling_places : ByBytes styling
styling_places = by_bytes styling styling_exact styling_ready

reads_back : (s : Styling) → Valid s → Reads (styling_text s) s
reads_back s v = record {
  spelling = spelled s;
  reads = (styling_fines (styling_text s) (spelled s)).1 (spelled_valid s v, refl);
  accepted = spelled_accepted s v;
  means = spelled_means s v;
}

module _ (text : List ℕ) (s : Styling) (r : Reads text s) where
  abbrev t : Spelling
  t = r.spelling

  written : styling.Valid t × (text ≡ styling.write t)
  written = (styling_fines text t).0 r.reads

  read_valid : Valid s
  read_valid = subst Valid r.means (meaning_valid t r.accepted written.0)

  read_shortest : length (styling_text s) ≤ length text
  read_shortest =
      rw written.1
      (subst (λ (m : Styling). length (styling_text m) ≤ length (styling.write t)) r.means (meaning_shortest t written.0 r.accepted))

  read_unique : length text ≤ length (styling_text s) → text ≡ styling_text s
  read_unique h =
      let k : length (styling.write t) ≤ length (styling_text s) = subst (λ (u : List ℕ). length u ≤ length (styling_text s)) written.1 h in
      let j : length (styling.write t) ≤ length (styling_text (meaning t)) =
      subst (λ (m : Styling). length (styling.write t) ≤ length (styling_text m)) (sym r.means) k in
      written.1 ∙ ap styling.write (sym (spelled_same t written.0 r.accepted j)) ∙ ap styling_text r.means

pub styling_laws : StylingLaws
styling_laws = record {
  fines = styling_fines;
  places = styling_places;
  reads = reads_back;
  valid = read_valid;
  shortest = read_shortest;
  unique = read_unique;
}
