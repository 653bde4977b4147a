use Rattle.ac_util.proofs.Prelude.{◌∙◌, length-map, sym, subst}
use Rattle.ac_search.specs.Searchers.{HasBegunInPieces}
use Rattle.ac_search.proofs.ReplacerBegins.{replacing-begins}
use Rattle.ac_search.proofs.ahocorasick.AhoCorasick.try_piece_replacer.Goals as goal

pub invariant_of-result : goal.invariant_of-result
invariant_of-result g c =
    replacing-begins c.args.self.now.built
    (subst (HasBegunInPieces c.args.self.now.built) (sym c.finder.view_is) c.in_ok-finder.ensures.1) c.in_ok-finder.ensures.0
    c.in_ok-copy_of.ensures (length-map _ _ ∙ c.requires.texts) c.empty.ensures c.in_ok-window.ensures.clear
    c.buffer_len.ensures c.max_pattern_len.ensures c.in_ok-window.ensures.small
