use Rattle.ac_util.proofs.Prelude.{List, ℕ, ◌++◌, ◌∙◌, ap, rules}
use Rattle.ac_engines.specs.Prelude.{dead_words}
use Rattle.ac_util.proofs.ClassLists.{alphabet_len-few}
use Rattle.ac_engines.proofs.PackedStates.{are-packed, words-long}
use Rattle.ac_engines.proofs.nfa.contiguous.pack.Packer.pack.Goals as goal

pub push_dead-requires : goal.push_dead-requires
push_dead-requires g c = search (rules, alphabet_len-few)

-- the dead state's words come first, then those of the states that have matches, and then those of the others
pub returns-clause-long : goal.returns-clause-long
returns-clause-long g c =
    let (nodes, ready) = c.requires.ready in
    words-long c.args.self.now nodes ready c.push_dead.new.buffers.words.items c.push_where.new.buffers.words.items
    c.push_where-2.new.buffers.words.items
    (c.in_ok-push_dead.ensures
    ∙ ap (λ (ws : List ℕ). ws ++ dead_words c.args.self.now.plan)
    c.in_ok-with_capacity.ensures.items)
    (c.in_ok-push_where.ensures nodes ready) (c.in_ok-push_where-2.ensures nodes ready)

pub returns-clause-packed : goal.returns-clause-packed
returns-clause-packed g c = λ nodes ready.
    are-packed c.args.self.now nodes ready c.push_dead.new.buffers.words.items c.push_where.new.buffers.words.items
    c.push_where-2.new.buffers.words.items
    (c.in_ok-push_dead.ensures
    ∙ ap (λ (ws : List ℕ). ws ++ dead_words c.args.self.now.plan)
    c.in_ok-with_capacity.ensures.items)
    (c.in_ok-push_where.ensures nodes ready) (c.in_ok-push_where-2.ensures nodes ready) c.requires.small
