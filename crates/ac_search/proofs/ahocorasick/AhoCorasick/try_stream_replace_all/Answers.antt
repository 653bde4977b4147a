use Rattle.ac_util.proofs.Prelude.{◌∙◌, ap, sym}
use Rattle.ac_search.specs.Prelude.{built_of}
use Rattle.ac_search.proofs.StreamsServed.{replaced-served}
use Rattle.ac_search.proofs.ahocorasick.AhoCorasick.try_stream_replace_all.Goals as goal

-- the engine has the start, so what it leaves is the searcher's
pub returns-in-Noncontiguous : goal.returns-in-Noncontiguous
returns-in-Noncontiguous g c =
    replaced-served (built_of c.self.inside.engine) c.self.inside.start_kind c.self.invariant c.in_ok-check_start.ensures.0 _ _ _ _
    _ _ _ (ap (λ (engine : _). engine.built) c.as_ref.ensures ∙ ap built_of (sym c.in-Noncontiguous.is))
    (ap (λ (searcher : _). searcher.built) c.self.view_is) _ c.try_stream_replace_all.ensures

pub returns-in-Contiguous : goal.returns-in-Contiguous
returns-in-Contiguous g c =
    replaced-served (built_of c.self.inside.engine) c.self.inside.start_kind c.self.invariant c.in_ok-check_start.ensures.0 _ _ _ _
    _ _ _ (ap (λ (engine : _). engine.built) c.as_ref-in-Contiguous.ensures ∙ ap built_of (sym c.in-Contiguous.is))
    (ap (λ (searcher : _). searcher.built) c.self.view_is) _ c.try_stream_replace_all-in-Contiguous.ensures

pub returns-in-Dfa : goal.returns-in-Dfa
returns-in-Dfa g c =
    replaced-served (built_of c.self.inside.engine) c.self.inside.start_kind c.self.invariant c.in_ok-check_start.ensures.0 _ _ _ _
    _ _ _ (ap (λ (engine : _). engine.built) c.as_ref-in-Dfa.ensures ∙ ap built_of (sym c.in-Dfa.is))
    (ap (λ (searcher : _). searcher.built) c.self.view_is) _ c.try_stream_replace_all-in-Dfa.ensures
