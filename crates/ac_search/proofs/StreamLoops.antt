-- What a loop over the matches of a stream has seen, from one call to the next.
use Rattle.ac_util.proofs.Prelude.{◌≡◌, ◌≢◌, ℕ, suc, ◌+◌, ◌≤◌, Bool, true, List, [], ◌∷◌, ◌++◌, arith, refl, length, slice_get, Some, take, ap, subst, sym, ◌∙◌, take-append_seam, take-suc, length-take-le, take_all, take-take, common_steps, get_or_from_slice_get, slice_get_within}
use Rattle.ac_search.specs.Prelude.{FailsToRead, IsSettledBy, LeftmostFirst, LeftmostLongest, MatchKind, Reading, Standard, stream_result, usize_max, StreamError, Phase, Ended, Failed, Open, EndsNow, GivesError, GivesNextMatch, GivesNone, GoesOnBy, IsSettledIn, KeepsGiven, Streaming, with_start, BeginsUnderway, given_matches, GivenStay, HasGivenAll, HasGivenOne, HasStoppedAt, IsUnderway}
use Rattle.std.proofs.KnownBytes.{Consumes-nil, Consumes-trans}
use Rattle.std.specs.Io.KnownBytes.{Consumes, IsAtEnd}
use Rattle.ac_automaton.specs.Util.{Built, LiesIn, Occurrence, whole_input}
use Rattle.ac_util.proofs.GoesOn.{stream_result-begins}
use Rattle.ac_util.proofs.Lying.{walk_result-lie}
use Rattle.ac_util.proofs.Settled.{settled-stays}
use Rattle.ac_util.proofs.Shortest.{none-empty}
use Rattle.ac_search.proofs.StreamsServed.{settled-by}

module _ (built : Built) (bytes : List ℕ) where
  -- the matches that settle a stream stay
  settled-stay : (kind : MatchKind) → built.kind ≡ kind → (given place : ℕ) → IsSettledBy kind built bytes given place
      → GivenStay built given bytes
  settled-stay Standard standard given place settled more nonempty =
      let begins = stream_result-begins built standard bytes more in
      grind (arith, common_steps, take-append_seam (stream_result built bytes) begins.0)
  settled-stay LeftmostFirst first given place settled more nonempty =
      let stays = settled-stays built (grind (arith, common_steps)) bytes more (λ n. none-empty built.patterns n nonempty) given place settled in
      stays.0
  settled-stay LeftmostLongest longest given place settled more nonempty =
      let stays = settled-stays built (grind (arith, common_steps)) bytes more (λ n. none-empty built.patterns n nonempty) given place settled in
      stays.0

  -- and so do fewer of them
  fewer-stay : (given more : ℕ) → given ≤ more → GivenStay built more bytes → GivenStay built given bytes
  fewer-stay given more few stay rest nonempty =
      sym (take-take given more (stream_result built (bytes ++ rest)) few)
      ∙ ap (take given) (stay rest nonempty)
      ∙ take-take given more (stream_result built bytes) few

  -- a stream is settled while it is open
  open-settled : (phase : Phase) → phase ≡ Open → (given place : ℕ) → IsSettledIn phase built bytes given place
      → IsSettledBy built.kind built bytes given place
  open-settled Open is given place settled = settled
  open-settled Ended is given place settled = grind (arith, common_steps)
  open-settled Failed is given place settled = settled

-- a read that a stream goes on by has moved its bytes; no error was met, and nothing is left where the end was met
moved : (ends : Bool) (phase next : Phase) → phase ≢ Failed → (now later : Reading) (more : List ℕ)
    → (phase ≡ Ended → ends ≡ true → IsAtEnd now.left) → GoesOnBy ends phase next now later more
    → (next ≢ Failed) × Consumes now.left later.left more × (next ≡ Ended → ends ≡ true → IsAtEnd later.left)
    × (later.failed ≡ now.failed)
moved ends Open Open fine now later more before reads = (fine, reads.moved, λ is. grind (arith, common_steps), reads.failed)
moved ends Open Ended fine now later more before reads = ((λ is. grind (arith, common_steps)), reads.moved, (λ is. reads.ended), reads.failed)
moved ends Open Failed fine now later more before reads = absurd reads
moved ends Ended Open fine now later more before reads = absurd reads
moved ends Ended Ended fine now later more before reads = (
  fine,
  subst (λ (r : Reading). Consumes now.left r.left more) (sym reads.1)
      (subst (Consumes now.left now.left) (sym reads.0) (Consumes-nil now.left)),
  (λ is yes. subst (λ (r : Reading). IsAtEnd r.left) (sym reads.1) (before refl yes)),
  ap (λ (r : Reading). r.failed) reads.1,
)
moved ends Ended Failed fine now later more before reads = absurd reads
moved ends Failed next fine now later more before reads = absurd (fine refl)

-- a search that begins is under way
pub begins : (ends : Bool) (built : Built) → BeginsUnderway ends built
begins ends built reader v begun = (
  record {
    start = begun.0;
    built_is = ap (λ (u : Streaming). u.built) begun.1;
    goes_on = λ failed. grind (arith, common_steps);
    failed = refl;
    ended = λ end. grind (arith, common_steps);
    read = subst (λ (u : Streaming). Consumes reader.left reader.left u.bytes) (sym begun.1) (Consumes-nil reader.left);
  },
  ap (λ (n : ℕ). take n (stream_result built v.bytes)) (ap (λ (u : Streaming). u.given) begun.1),
)

module _ {ends : Bool} {built : Built} {first now : Reading} {v : Streaming} (h : IsUnderway ends built first now v) where
  -- which starts are supported makes no difference to the matches
  same-matches : (bytes : List ℕ) → stream_result v.built bytes ≡ stream_result built bytes
  same-matches bytes = ap (λ (b : Built). stream_result b bytes) h.built_is

  -- the matches that were given stay
  still : (bytes : List ℕ) → KeepsGiven v bytes → take v.given (stream_result built bytes) ≡ given_matches built v
  still bytes keeps =
      ap (take v.given) (sym (same-matches bytes)) ∙ keeps ∙ ap (take v.given) (same-matches v.bytes)

  -- it is under way after a read
  reads-on : {w : Streaming} {later : Reading} (more : List ℕ) → w.built ≡ v.built
      → w.bytes ≡ v.bytes ++ more → GoesOnBy ends v.phase w.phase now later more → IsUnderway ends built first later w
  reads-on {w} {later} more same bytes reads =
      let on = moved ends v.phase w.phase h.goes_on now later more h.ended reads in
      record {
        start = h.start;
        built_is = same ∙ h.built_is;
        goes_on = on.0;
        failed = on.3 ∙ h.failed;
        ended = on.2;
        read = subst (Consumes first.left later.left) (sym bytes)
            (Consumes-trans first.left now.left later.left v.bytes more h.read on.1);
      }

  -- what settles a stream for what it searches settles it for what was built
  settled-alike : {v' : Built} (bytes : List ℕ) (given place : ℕ) → v' ≡ v.built → IsSettledBy v'.kind v' bytes given place
      → GivenStay built given bytes
  settled-alike {v'} bytes given place same settled =
      settled-stay built bytes built.kind refl given place
      (settled-by (with_start built h.start) built.start_kind built.kind bytes given place
      (subst (λ (b : Built). IsSettledBy b.kind b bytes given place) (same ∙ h.built_is) settled))

  module _ {w : Streaming} {later : Reading} where
    -- the next match is one more
    pub goes-on : (m : Occurrence) → GivesNextMatch ends v m w now later → HasGivenOne ends built first later v w m
    goes-on m gives =
        let bytes = v.bytes ++ gives.more in
        let ms = stream_result built bytes in
        let next : slice_get ms v.given ≡ Some m =
        ap (λ (os : List Occurrence). slice_get os v.given) (sym (same-matches bytes)) ∙ gives.next in
        let within = slice_get_within ms v.given m next in
        let up : v.given + 1 ≡ suc v.given = omega arith in
        let given : w.given ≡ v.given + 1 = ap (λ (u : Streaming). u.given) gives.same in
        let read : w.bytes ≡ bytes = ap (λ (u : Streaming). u.bytes) gives.same in
        let built_is : w.built ≡ v.built = ap (λ (u : Streaming). u.built) gives.same in
        let now_given : given_matches built w ≡ take (v.given + 1) ms =
        ap (λ (n : ℕ). take n (stream_result built w.bytes)) given
        ∙ ap (λ (bs : List ℕ). take (v.given + 1) (stream_result built bs)) read in
        let long = length-take-le (v.given + 1) ms (omega arith) in
        let counted = gives.counted in
        let settling = gives.settled in
        record {
          underway = reads-on gives.more built_is read gives.reads;
          one_more = now_given
              ∙ ap (λ (n : ℕ). take n ms) up
              ∙ take-suc ms v.given m within
              ∙ ap (λ (o : Occurrence). take v.given ms ++ o ∷ []) (get_or_from_slice_get ms v.given m m next)
              ∙ ap (λ (os : List Occurrence). os ++ m ∷ []) (still bytes gives.given);
          numbered = (subst (LiesIn built (whole_input bytes)) (get_or_from_slice_get ms v.given m m next)
              (walk_result-lie built (whole_input bytes) (omega arith) v.given m within)).numbered;
          few = subst (λ (os : List Occurrence). length os ≤ usize_max) (sym now_given) (omega arith);
          stay = λ open'. fewer-stay built w.bytes w.given settling.given (let among = settling.among in omega arith)
              (settled-alike w.bytes settling.given settling.place built_is
              (open-settled w.built w.bytes w.phase open' settling.given settling.place settling.settled));
        }

    -- there is none any more
    ends-now : (phase : Phase) → phase ≢ Failed → GivesNone phase ends v w now later → EndsNow ends v w now later
    ends-now Open fine none = none
    ends-now Ended fine none = none
    ends-now Failed fine none = absurd (fine refl)

    pub given-all : GivesNone v.phase ends v w now later → HasGivenAll ends built first later v w
    given-all none =
        let gives = ends-now v.phase h.goes_on none in
        let bytes = v.bytes ++ gives.more in
        let read : w.bytes ≡ bytes = ap (λ (u : Streaming). u.bytes) gives.same in
        let phase : w.phase ≡ Ended = ap (λ (u : Streaming). u.phase) gives.same in
        let all = gives.all ∙ ap length (same-matches bytes) in
        record {
          underway = reads-on gives.more (ap (λ (u : Streaming). u.built) gives.same) read
              (subst (λ (p : Phase). GoesOnBy ends v.phase p now later gives.more) (sym phase) gives.reads);
          end = phase;
          all = sym (still bytes gives.given)
              ∙ take_all v.given (stream_result built bytes) (omega arith)
              ∙ ap (stream_result built) (sym read);
        }

    -- an error was met
    pub stops : (e : StreamError) → GivesError v e w now later → HasStoppedAt built first later v w e
    stops e gives =
        let bytes = v.bytes ++ gives.more in
        let read : w.bytes ≡ bytes = ap (λ (u : Streaming). u.bytes) gives.same in
        let given : w.given ≡ v.given = ap (λ (u : Streaming). u.given) gives.same in
        let reads = gives.reads in
        record {
          read = λ cause is.
              (let fails = subst (λ (x : StreamError). FailsToRead (length v.bytes) now later gives.more x) is reads in (
                subst (Consumes first.left later.left) (sym read)
                    (Consumes-trans first.left now.left later.left v.bytes gives.more h.read fails.moved),
                fails.failed ∙ ap (λ (n : ℕ). n + 1) h.failed,
                fails.error,
              ));
          same = ap (λ (n : ℕ). take n (stream_result built w.bytes)) given
              ∙ ap (λ (bs : List ℕ). take v.given (stream_result built bs)) read
              ∙ still bytes gives.given;
          stay = subst (λ (n : ℕ). GivenStay built n w.bytes) (sym given)
              (subst (GivenStay built v.given) (sym read) (settled-alike bytes v.given w.kept refl gives.all.settled));
          all = λ standard.
              (let kind : v.built.kind ≡ Standard = ap (λ (b : Built). b.kind) h.built_is ∙ standard in
              let settled = subst (λ (k : MatchKind). IsSettledBy k v.built bytes v.given w.kept) kind gives.all.settled in
              let all = settled.0 ∙ ap length (same-matches bytes) in
              sym (still bytes gives.given)
              ∙ take_all v.given (stream_result built bytes) (omega arith)
              ∙ ap (stream_result built) (sym read));
        }
