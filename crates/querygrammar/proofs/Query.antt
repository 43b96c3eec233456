-- The query is lawful in every spelling, its parts without coordinates are exact, and what may follow what.
use Prim.Native.Nat.{ℕ}
use mathlib.Core.List.{List, [], ◌∷◌, ◌++◌, append_assoc}
use mathlib.Core.Path.{◌≡◌}
use mathlib.Core.Logic.{inl, inr}
use mathlib.Core.Option.{Option, none, some}
use native.Mathlib.Omega.{arith}
use Rattle.format.specs.Format.{optional, many, Absent}
use Rattle.format.proofs.Lawful.{Lawful}
use Rattle.format.proofs.Begun.{absent_other}
use Rattle.format.proofs.Sequence.{sequence_lawful}
use Rattle.format.proofs.Exact.{Exact}
use Rattle.format.proofs.ExactParts.{sequence_exact, optional_exact, either_exact}
use Rattle.format.proofs.ExactMany.{many_exact}
use Rattle.charset.specs.Bytes.{byte, digit, after}
use Rattle.charset.proofs.Coding.{byte_exact, digit_exact}
use Rattle.charset.proofs.Units.{after_lawful, after_exact}
use Rattle.charset.proofs.FixedByte.{byte_other, after_byte}
use Rattle.querygrammar.specs.Spelling.{Spelling}
use Rattle.querygrammar.specs.Query.{later_figures, Figures, figures, variance, HeadText, QueryText, coordinate, prefix_list, bare_list, signbox_list, some_lists, prefix_lists, head, tail, after_q, query}
use Rattle.querygrammar.proofs.Opens.{either_other}
use Rattle.querygrammar.proofs.Lists.{Starts, Apart, Later, letter_later, Laws, many_starts, many_follow, many_laws, list_laws, list_exact, placed_laws}
use Rattle.querygrammar.proofs.Items.{LawfulSpelling}

-- THE VARIANCE

figure_exact : Exact 1 (digit 0 9)
figure_exact = digit_exact 0 9 (omega arith) (omega arith)

later_exact : Exact 1 later_figures
later_exact = sequence_exact 1 (digit 0 9) (λ b. optional (digit 0 9)) figure_exact λ b ok. optional_exact 1 (digit 0 9) figure_exact

figures_exact : Exact 1 figures
figures_exact = sequence_exact 1 (digit 0 9) (λ a. optional later_figures) figure_exact λ a ok. optional_exact 1 later_figures later_exact

pub variance_exact : Exact 1 variance
variance_exact = optional_exact 1 (after 86 figures) (after_exact 86 figures figures_exact)

pub variance_lawful : Lawful 1 variance
variance_lawful = variance_exact.lawful

variance_later : (v : Option Figures) → Starts Later (variance.write v ++ [])
variance_later none = tt
variance_later (some f) = letter_later 86 (omega arith) (omega arith) (λ e. omega arith)

figures_follow : (v : Option Figures) → variance.Valid v → variance.Follow v []
figures_follow none ok = tt
figures_follow (some f) ok = ((go f.1, tt), tt)
  where
    last : (c : Option ℕ) → (optional (digit 0 9)).Follow c []
    last none = tt
    last (some c) = tt

    go : (b : Option (ℕ × Option ℕ)) → (optional later_figures).Follow b []
    go none = tt
    go (some b) = (last b.1, tt)

module _ (s : Spelling) (l : LawfulSpelling s) where
  -- LISTS

  pub prefix_list_laws : Laws Apart (prefix_list s)
  prefix_list_laws = list_laws s.prefix_item l.prefix_item s.joins

  pub bare_list_laws : Laws Apart (bare_list s)
  bare_list_laws = list_laws s.signbox_item l.signbox_item s.joins

  pub signbox_list_laws : Laws Later (signbox_list s)
  signbox_list_laws = placed_laws (bare_list s) bare_list_laws (coordinate s) l.coordinate

  pub signbox_lists_lawful : Lawful 1 (many (signbox_list s))
  signbox_lists_lawful = many_laws (signbox_list s) signbox_list_laws

  pub bare_list_exact : Exact 1 (bare_list s)
  bare_list_exact = list_exact s.signbox_item l.signbox_item l.signbox_exact s.joins

  -- THE PARTS OF A QUERY

  some_lists_exact : Exact 1 (some_lists s)
  some_lists_exact =
      let x = list_exact s.prefix_item l.prefix_item l.prefix_exact s.joins in
      sequence_exact 1 (prefix_list s) (λ v. many (prefix_list s)) x λ v ok. many_exact 1 (prefix_list s) x prefix_list_laws.opens.solid

  pub some_lists_lawful : Lawful 1 (some_lists s)
  some_lists_lawful = some_lists_exact.lawful

  pub optional_head_exact : Exact 1 (optional (head s))
  optional_head_exact =
      optional_exact 1 (head s)
      (either_exact 1 (byte 84) (after 65 (prefix_lists s)) (byte_exact 84)
      (after_exact 65 (prefix_lists s) (sequence_exact 1 (some_lists s) (λ v. byte 84) some_lists_exact λ v ok. byte_exact 84)))

  pub optional_head_lawful : Lawful 1 (optional (head s))
  optional_head_lawful = optional_head_exact.lawful

  tail_lawful : Lawful 1 (tail s)
  tail_lawful = sequence_lawful 1 (many (signbox_list s)) (λ v. variance) signbox_lists_lawful λ v ok. variance_lawful

  pub query_lawful : Lawful 1 (query s)
  query_lawful = after_lawful 81 (after_q s) (sequence_lawful 1 (optional (head s)) (λ h. tail s) optional_head_lawful λ h ok. tail_lawful)

  -- WHAT MAY FOLLOW WHAT

  no_head_lem : (text : List ℕ) → Starts Later text → Absent text ((head s).read text)
  no_head_lem [] k = tt
  no_head_lem (x ∷ t) k =
      absent_other (x ∷ t)
      (either_other (byte 84) (after 65 (prefix_lists s)) (x ∷ t) (byte_other 84 x t k.1.1.0) (after_byte 65 (prefix_lists s) x t (λ e. omega (arith, k.1.0, e))))

  pub head_follow : (h : Option (HeadText s.Says)) (text : List ℕ) → (optional (head s)).Valid h → Starts Later text → (optional (head s)).Follow h text
  head_follow none text ok k = no_head_lem text k
  head_follow (some (inl t)) text ok k = tt
  head_follow (some (inr p)) text ok k =
      let t = p.1 in
      let e : t ≡ 84 = omega (arith, ok.1.0, ok.1.1) in
      let apart : Apart t = ((λ z. omega (arith, e, z), λ z. omega (arith, e, z)), λ z. omega (arith, e, z)) in (
        byte_other 84 65 ((prefix_lists s).write p ++ text) (λ z. omega arith),
        (
          (
            tt,
            (
              many_follow (prefix_list s) prefix_list_laws (λ x q. q.0) p.0.1 (t ∷ text) ok.0.1 apart
                  (absent_other (t ∷ text) (prefix_list_laws.strange t text (λ z. omega (arith, e, z)) (λ z. omega (arith, e, z)) (λ z. omega (arith, e, z)))),
              prefix_list_laws.follows p.0.0 _ ok.0.0 (many_starts (prefix_list s) prefix_list_laws (λ x q. q.0) p.0.1 (t ∷ text) ok.0.1 apart),
            ),
          ),
          tt,
        ),
      )

  no_list : (v : Option Figures) → Absent (variance.write v ++ []) ((signbox_list s).read (variance.write v ++ []))
  no_list none = rw signbox_list_laws.opens.empty tt
  no_list (some f) =
      let t = figures.write f ++ [] in
      absent_other (86 ∷ t) (signbox_list_laws.strange 86 t (λ e. omega arith) (λ e. omega arith) (λ e. omega arith))

  pub query_ready : (v : QueryText s.Says) → (query s).Valid v → (query s).Follow v []
  query_ready v ok =
      let m = v.1.0 in
      let d = v.1.1 in
      let w = variance.write d ++ [] in (
        (
          (figures_follow d ok.1.1, many_follow (signbox_list s) signbox_list_laws (λ x k. k) m w ok.1.0 (variance_later d) (no_list d)),
          head_follow v.0 ((tail s).write v.1 ++ []) ok.0
              (rw (append_assoc ((many (signbox_list s)).write m) (variance.write d) []) (many_starts (signbox_list s) signbox_list_laws (λ x k. k) m w ok.1.0 (variance_later d))),
        ),
        tt,
      )
