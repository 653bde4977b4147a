use Rattle.ac_util.proofs.Prelude.{◌≡◌, ◌++◌, map}
use Rattle.ac_engines.specs.Prelude.{class_words, Edge}
use Rattle.std.specs.Slice.Iter.{chunks_rest, chunks_size}
use Rattle.ac_engines.proofs.nfa.contiguous.state_fields.push_classes.Given as goal

-- the words so far, with those of the classes that are left, are the words of all classes
abbrev pub invariant-loop-four : goal.invariant-loop-four
invariant-loop-four g l = record {
  by_four : chunks_size l.four-iterator ≡ 4;
  pushed : l.words.items ++ class_words (map (λ (e : Edge). e.class) (chunks_rest l.four-iterator))
      ≡ l.initial.words.items ++ class_words (map (λ (e : Edge). e.class) l.edges);
}
