-- The search of a stream, whether it stops at a match or not: what is settled of the state to which it has come was given.
use Rattle.ac_util.proofs.Prelude.{◌≡◌, ◌≢◌, ◌⊎◌, ℕ, true, false, List, inl, inr, ap, sym, subst, ◌∙◌, not, None, Option, Some, false≢true}
use Rattle.ac_automaton.specs.Prelude.{Built, is_leftmost, MatchKind, No, Node, Standard, AutomatonView, Cursor, Ended, Inside, IsStreaming, matches_of, Phase, Streaming, GivesAt, IsCore, CommitsView, HasCommits, reads_on, SettlesBy, streaming_by, ChainMatch, Given}
use Rattle.ac_automaton.proofs.OnwardGives.{gives-first, gives-past}
use Rattle.ac_automaton.proofs.StreamFirst.{settles-first}
use Rattle.ac_automaton.proofs.StreamSearched.{holds-first}
use Rattle.ac_automaton.proofs.StreamPast.{holds-past, settles-past}
use Rattle.ac_automaton.proofs.StreamReads.{by-kind, comes, HoldsBack, IsReadOn, Settles, u}
use Rattle.ac_automaton.proofs.StreamRefusals.{past-on}

-- its core is the automaton's
pub core-is : {a : AutomatonView} {c : CommitsView} {i : Inside} {v : Streaming} → IsStreaming (a.stands No) c.chains i v
    → v.built ≡ a.built → HasCommits a c → IsCore a c i.start i.stops
core-is {a} {c} {i} {v} inv same commits = record {
  starts = inv.starts;
  on = on;
  commits = λ past. commits (on past);
}
  where
    on : i.stops ≡ false → reads_on a.built ≡ true
    on past = elim (by-kind v.built.kind) [
      | inl standard ↦
          absurd (false≢true (sym past ∙ inv.stops ∙ ap (λ (k : MatchKind). not (is_leftmost k)) standard))
      | inr first ↦ subst (λ (b : Built). reads_on b ≡ true) same (past-on v.built inv.allowed first)
    ]

module _ (a : AutomatonView) {bytes : List ℕ} {given front kept : ℕ} {phase : Phase} {buffer : ℕ} {chains : List (List ChainMatch)}
    {i : Inside} (inv : IsStreaming (a.stands No) chains i (streaming_by a.built bytes given front kept phase buffer))
    {there : Cursor} {byte : Option ℕ} (on : IsReadOn a chains i there byte)
    (lists : (u : Node) → a.stands No there.state u → a.listed there.state ≡ matches_of a.built No u) where
  abbrev v : Streaming
  v = streaming_by a.built bytes given front kept phase buffer

  stops-standard : a.built.kind ≡ Standard → i.stops ≡ true
  stops-standard standard = inv.stops ∙ ap (λ (k : MatchKind). not (is_leftmost k)) standard

  passes-leftmost : is_leftmost a.built.kind ≡ true → i.stops ≡ false
  passes-leftmost first = inv.stops ∙ ap not first

  over-by : i.stops ≡ false → SettlesBy i.stops byte phase → (byte ≢ None) ⊎ (phase ≡ Ended)
  over-by past (inl first) = absurd (false≢true (sym past ∙ first))
  over-by past (inr ends) = ends

  pub settles-so : (gave : Given) → SettlesBy i.stops byte phase × GivesAt a chains i.start i.stops there.state (Some gave)
      → Settles a chains i v there gave
  settles-so gave is = elim (by-kind a.built.kind) [
    | inl standard ↦
        let first = stops-standard standard in
        settles-first a inv on standard first lists gave (gives-first a chains i.start there.state i.stops (Some gave) first is.1)
    | inr leftmost ↦
        let past = passes-leftmost leftmost in
        settles-past a inv on leftmost past (over-by past is.0) gave
        (gives-past a chains i.start there.state i.stops (Some gave) past is.1 (u a inv on) (comes a inv on).there)
  ]

  -- or nothing was
  pub holds-so : (SettlesBy i.stops byte phase → GivesAt a chains i.start i.stops there.state None) → HoldsBack a chains i v inv there
  holds-so none = elim (by-kind a.built.kind) [
    | inl standard ↦
        let first = stops-standard standard in
        holds-first a inv on standard first lists (gives-first a chains i.start there.state i.stops None first (none (inl first)))
    | inr leftmost ↦
        let past = passes-leftmost leftmost in
        holds-past a inv on leftmost past
        (λ over. gives-past a chains i.start there.state i.stops None past (none (inr over)) (u a inv on) (comes a inv on).there)
  ]
