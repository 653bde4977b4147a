-- A replacement by a closure, match by match: from what was done so far, the steps that are left lead on to those of
-- the whole.
use Rattle.ac_util.proofs.Prelude.{◌≡◌, ◌∙◌, ℕ, Bool, true, false, List, [], ◌∷◌, ◌++◌, ap, arith, drop, length, inl, inr, refl, subst, sym, Option, None, Some, Result, Ok, Err, IsErrAnd, MatchResult, slice_range, Bor, MutBor, common_steps}
use Rattle.ac_automaton.specs.Prelude.{AppendsAll, InputView, answer_of, whole_input, Built, Calls, find_refusal, MakesSteps, MatchError, Occurrence, replace_refusal, ReplaceError, ReplacementSteps, StepsLead, Turn, Memory}
use Rattle.std.specs.Fn.{Mut}

-- a slice up to the end is what follows a place
pub slice_to_end : (bytes : List ℕ) (place : ℕ) → slice_range bytes place (length bytes) ≡ drop place bytes
slice_to_end bytes place = grind (arith, common_steps)

-- a closure has exchanged some of the matches, from a destination on that was `old` at first: steps from this place
-- on, over the matches that are left, are the last of the whole
pub record LeadsOn {F D : Type 0}
    (closures : Mut F (Bor Occurrence × (Bor (List ℕ) × (MutBor D × Unit {0}))) (Bool × (MutBor D × Unit {0})))
    (holds : D → List ℕ) (haystack : List ℕ) (all : List Occurrence) (first : F) (old : D) (place : ℕ)
    (ms : List Occurrence) (f : F) (d : D) : Type 0 where
  pub on : (end : Option ReplaceError) (left : F) (new : D)
      → ReplacementSteps (AppendsAll holds) (Calls closures) answer_of haystack place ms
      (record { closure = f; destination = d }) end (record { closure = left; destination = new })
      → StepsLead closures holds haystack all first old end new

module _ {F D : Type 0}
    {closures : Mut F (Bor Occurrence × (Bor (List ℕ) × (MutBor D × Unit {0}))) (Bool × (MutBor D × Unit {0}))}
    {holds : D → List ℕ} {haystack : List ℕ} {all : List Occurrence} {first : F} {old : D} where
  -- at first all are left
  pub leads-begin : (ms : List Occurrence) → ms ≡ all
      → LeadsOn closures holds haystack all first old 0 ms first old
  leads-begin ms is = grind (arith, common_steps)

  module _ {place : ℕ} {was : List Occurrence} {f : F} {d : D} (m : Occurrence) (ms : List Occurrence)
      (leads : LeadsOn closures holds haystack all first old place was f d) (is : was ≡ m ∷ ms) where
    -- m is the first of those that are left
    next-leads : LeadsOn closures holds haystack all first old place (m ∷ ms) f d
    next-leads = subst (λ (ns : List Occurrence). LeadsOn closures holds haystack all first old place ns f d) is leads

    -- the gap up to it was refused
    pub leads-refused : (e : D) → holds e ≡ holds d
        → StepsLead closures holds haystack all first old (Some Memory) e
    leads-refused e same = next-leads.on (Some Memory) f e (inl ((λ h. absurd (cc)), (refl, same)))

    module _ (start again end : ℕ) (starts : start ≡ m.start) (starts_again : again ≡ m.start) (ends : end ≡ m.end)
        (at_match : D) (gap : holds at_match ≡ holds d ++ slice_range haystack place start) (g : F) (e : D) (r : Bool)
        (call : Calls closures m (slice_range haystack again end) (record { closure = f; destination = at_match }) r
        (record { closure = g; destination = e })) where
      -- the gap was appended, and a call made with the match
      turned : (b : Bool) → r ≡ b → Turn (AppendsAll {E = ReplaceError} holds) (Calls closures) answer_of haystack place m
          (record { closure = f; destination = d }) b (record { closure = g; destination = e })
      turned b answers = record {
        at_match = record { closure = f; destination = at_match };
        gap = (refl, gap ∙ ap (λ (i : ℕ). holds d ++ slice_range haystack place i) starts);
        call = subst (λ (c : Bool). Calls closures m (slice_range haystack m.start m.end)
            (record { closure = f; destination = at_match }) c (record { closure = g; destination = e })) answers
            (subst (λ (i : ℕ). Calls closures m (slice_range haystack m.start i)
            (record { closure = f; destination = at_match }) r (record { closure = g; destination = e })) ends
            (subst (λ (i : ℕ). Calls closures m (slice_range haystack i end)
            (record { closure = f; destination = at_match }) r (record { closure = g; destination = e })) starts_again
            call));
      }

      -- the call answered true: the other matches are left
      pub leads-turn : r ≡ true → LeadsOn closures holds haystack all first old end ms g e
      leads-turn answers =
          subst (λ (i : ℕ). LeadsOn closures holds haystack all first old i ms g e) (sym ends) (record {
            on = λ finish left new steps.
                next-leads.on finish left new (inr (true, record { closure = g; destination = e }, turned true answers, steps));
          })

      -- or false: no match is left
      pub leads-stop : r ≡ false → LeadsOn closures holds haystack all first old end [] g e
      leads-stop answers =
          subst (λ (i : ℕ). LeadsOn closures holds haystack all first old i [] g e) (sym ends) (record {
            on = λ finish left new steps.
                next-leads.on finish left new (inr (false, record { closure = g; destination = e }, turned false answers, steps));
          })

  -- a match was passed over that isn't exchanged
  pub leads-skip : {place : ℕ} {was ms : List Occurrence} {f : F} {d : D}
      → LeadsOn closures holds haystack all first old place was f d → was ≡ ms
      → LeadsOn closures holds haystack all first old place ms f d
  leads-skip {place} {was} {ms} {f} {d} leads is = grind (arith, common_steps)

  -- no match is left, said with other names
  pub leads-out : {place to : ℕ} {was : List Occurrence} {f h : F} {d e : D}
      → LeadsOn closures holds haystack all first old place was f d → was ≡ [] → to ≡ place → h ≡ f → e ≡ d
      → LeadsOn closures holds haystack all first old to [] h e
  leads-out {place} {to} {was} {f} {h} {d} {e} leads none places fs ds = grind (arith, common_steps)

  -- what follows the last match was appended
  pub leads-end : {place : ℕ} {f : F} {d : D} (e : D) → LeadsOn closures holds haystack all first old place [] f d
      → holds e ≡ holds d ++ drop place haystack → StepsLead closures holds haystack all first old None e
  leads-end {place} {f} {d} e leads rest = leads.on None f e (refl, rest)

  -- or refused
  pub leads-end_refused : {place : ℕ} {f : F} {d : D} (e : D)
      → LeadsOn closures holds haystack all first old place [] f d → holds e ≡ holds d
      → StepsLead closures holds haystack all first old (Some Memory) e
  leads-end_refused {place} {f} {d} e leads same = leads.on (Some Memory) f e (refl, same)

pub unrefused : (built : Built) (haystack : List ℕ) (a : InputView) → a ≡ whole_input haystack
    → find_refusal built a ≡ None → replace_refusal built ≡ None
unrefused built haystack a is none = grind (arith, common_steps)

-- where it isn't refused, and memory was, these are the steps up to there
pub stops-by_memory : (refused : Option MatchError) (steps : Option ReplaceError → Type 0) (unchanged : Type 0)
    (result : Result (Unit {0}) ReplaceError) → IsErrAnd result (λ e. e ≡ Memory) → refused ≡ None
    → steps (Some Memory) → MakesSteps refused steps unchanged result
stops-by_memory refused steps unchanged (Ok done) memory none made = absurd memory
stops-by_memory refused steps unchanged (Err e) memory none made = grind (arith, common_steps)

-- an append was refused: these are the steps up to there
pub steps-refused : {E : Type 0} (result : Result (Unit {0}) E) (why : E → Type 0) (all some : Type 0)
    → IsErrAnd result why → some → MatchResult result (λ done. all) (λ e. some)
steps-refused (Ok done) why all some refused steps = absurd refused
steps-refused (Err e) why all some refused steps = steps
