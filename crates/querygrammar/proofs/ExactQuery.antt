-- The query is exact where its coordinates are: in SWU, and in FSW with a wrong number told at the byte where it goes wrong.
use Prim.Native.Nat.{ℕ}
use Rattle.format.specs.Format.{Format, optional, many}
use Rattle.format.proofs.Exact.{Exact}
use Rattle.format.proofs.ExactParts.{sequence_exact, optional_exact}
use Rattle.format.proofs.ExactMany.{many_exact}
use Rattle.charset.specs.declared.Charset.TheVariants.{Fsw, Swu}
use Rattle.charset.specs.Bytes.{after}
use Rattle.charset.specs.Tokens.{fsw_number}
use Rattle.charset.proofs.Units.{after_delimited, after_exact}
use Rattle.charset.proofs.Keys.{number_strict}
use Rattle.charset.proofs.Sets.{exact_tokens, exact}
use Rattle.grammar.specs.Sign.{point}
use Rattle.grammar.proofs.ExactSign.{point_exact}
use Rattle.querygrammar.specs.declared.Edition.TheVariants.{Second}
use Rattle.querygrammar.specs.Spelling.{query_number, Spelling, second_swu}
use Rattle.querygrammar.specs.Query.{variance, coordinate, bare_list, signbox_list, head, tail, after_q, query}
use Rattle.querygrammar.proofs.Items.{number_other, number_apart, pair_point, query_number_strict, LawfulSpelling, lawful}
use Rattle.querygrammar.proofs.Query.{variance_exact, signbox_list_laws, bare_list_exact, optional_head_exact}

pub exact_point : Exact 1 (point (exact_tokens Fsw))
exact_point = point_exact (exact_tokens Fsw) (exact Fsw)

module _ (s : Spelling) (l : LawfulSpelling s) (x : Exact 1 (coordinate s)) where
  pub signbox_list_exact : Exact 1 (signbox_list s)
  signbox_list_exact = sequence_exact 1 (bare_list s) (λ v. optional (coordinate s)) (bare_list_exact s l) λ v ok. optional_exact 1 (coordinate s) x

  pub signbox_lists_exact : Exact 1 (many (signbox_list s))
  signbox_lists_exact = many_exact 1 (signbox_list s) signbox_list_exact (signbox_list_laws s l).opens.solid

  pub tail_exact : Exact 1 (tail s)
  tail_exact = sequence_exact 1 (many (signbox_list s)) (λ v. variance) signbox_lists_exact λ v ok. variance_exact

  pub after_q_exact : Exact 1 (after_q s)
  after_q_exact = sequence_exact 1 (optional (head s)) (λ h. tail s) (optional_head_exact s l) λ h ok. tail_exact

  pub query_exact : Exact 1 (query s)
  query_exact = after_exact 81 (after_q s) after_q_exact

pub swu_exact : Exact 1 (query second_swu)
swu_exact =
    query_exact second_swu (lawful (Second Swu)) (sequence_exact 1 query_number (λ x. query_number) query_number_strict.exact λ x ok. query_number_strict.exact)

-- a spelling with coordinates in FSW, by the format of their numbers; with exact ones, it is exact
abbrev pub with_number : Format ℕ → Spelling → Spelling
with_number number s = record {
  Says = s.Says;
  means = s.means;
  prefix_item = s.prefix_item;
  signbox_item = s.signbox_item;
  joins = s.joins;
  number = number;
  second = after 120 number;
}

abbrev pub exactly : Spelling → Spelling
exactly = with_number fsw_number

module _ (s : Spelling) (l : LawfulSpelling s) where
  pub exactly_lawful : LawfulSpelling (exactly s)
  exactly_lawful = record {
    prefix_item = l.prefix_item;
    signbox_item = l.signbox_item;
    prefix_exact = l.prefix_exact;
    signbox_exact = l.signbox_exact;
    coordinate =
        pair_point fsw_number (after 120 fsw_number) number_strict.delimited (after_delimited 120 fsw_number number_strict.delimited) number_apart
        (λ x t a n. number_other x t a);
  }

  pub fsw_exact : Exact 1 (query (exactly s))
  fsw_exact = query_exact (exactly s) exactly_lawful exact_point
