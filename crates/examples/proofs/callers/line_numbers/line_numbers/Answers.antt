use Rattle.std.proofs.Common.{◌≡◌, ◌∙◌, ◌∷◌, ◌++◌, ap, arith, List, map, ℕ, rules}
use Rattle.ac_search.specs.Occurrence.{Occurrence}
use Rattle.examples.specs.Callers.{line_at}
use Rattle.examples.proofs.LineCounts.{counted-on, earlier, numbered-on}
use Rattle.examples.proofs.callers.line_numbers.line_numbers.Goals as goal

-- the line feeds up to the match were counted
pub loop-m-preserved : goal.loop-m-preserved
loop-m-preserved c =
    let invariant = c.loop-m.invariant in
    let bytes = c.args.haystack.now in
    let m = c.in-Some.m in
    let left = c.next.new.self.rest in
    let rest : c.loop-m.m-iterator.rest ≡ m ∷ left = search rules in
    let order = rw rest at invariant.later in
    let begin : c.start.result ≡ m.start = search rules in
    let here : m.start ≡ c.start-counted.result = search rules in
    let feeds = rw begin at c.feeds_in-line.ensures in
    let line = counted-on bytes c.loop-m.line c.loop-m.counted m.start c.feeds_in-line.result invariant.line order.0 feeds in
    record {
      line = line ∙ ap (line_at bytes) here;
      inside = omega arith;
      later = earlier c.start-counted.result m.end _ left (omega arith) order.3;
      numbers =
          ap (λ (ns : List ℕ). ns ++ map (λ (n : Occurrence). line_at bytes n.start) left) c.in_ok-push.ensures.items
          ∙ numbered-on (λ (n : Occurrence). line_at bytes n.start) c.loop-m.numbers.items m left _ line
          ∙ rw rest at invariant.numbers;
    }
