-- Why a stream is refused: for its start or an empty pattern, and for no match kind.
use Rattle.ac_util.proofs.Prelude.{◌≡◌, ◌≢◌, ◌&&◌, nat_lt, Bool, true, false, Some, None, inl, inr, ap, sym, ◌∙◌, rules, arith, cases_lt, false≢true, lt-ltb, common_steps}
use Rattle.ac_automaton.specs.Prelude.{Built, empty_refusal, has_empty, is_leftmost, MatchKind, No, refusal, shortest_len, start_refusal, StartKind, Stream, stream_refusal, UnsupportedEmpty, reads_on}
use Rattle.ac_util.proofs.Shortest.{shortest-empty}

-- where the searcher has the start that a stream needs it is refused for an empty pattern alone
refused-if : (start : StartKind) (kind : MatchKind) (has : Bool) → start_refusal start No ≡ None
    → refusal start kind Stream has ≡ empty_refusal Stream has
refused-if start kind has starts = grind (arith, common_steps)

pub refused-empty : (built : Built) → start_refusal built.start_kind No ≡ None
    → shortest_len built.patterns ≡ 0 → stream_refusal built ≡ Some UnsupportedEmpty
refused-empty built s none = search (rules, refused-if, shortest-empty)

pub not-refused : (built : Built) → start_refusal built.start_kind No ≡ None
    → shortest_len built.patterns ≢ 0 → stream_refusal built ≡ None
not-refused built s some = search (rules, refused-if, shortest-empty)

-- a stream that isn't refused has no empty pattern
pub allowed-some : (built : Built) → stream_refusal built ≡ None → has_empty built ≡ false
allowed-some built allowed = grind (arith, common_steps)

-- so under a leftmost kind its walks read on from match to match
pub past-on : (built : Built) → stream_refusal built ≡ None → is_leftmost built.kind ≡ true → reads_on built ≡ true
past-on built allowed leftmost =
    ap (λ (t : Bool). t && nat_lt 0 (shortest_len built.patterns)) leftmost
    ∙ lt-ltb 0 (shortest_len built.patterns) (elim (cases_lt 0 (shortest_len built.patterns)) [
      | inl some ↦ some
      | inr none ↦
          absurd (false≢true (sym (allowed-some built allowed) ∙ (shortest-empty built.patterns).0 (omega arith)))
    ])
