-- What a get found, as an artifact.
use Rattle.std.proofs.Common.{◌≡◌, ℕ, ◌<◌, ◌≤◌, true, false, cond, List, length, is_ok, is_err, Some, None, Ok, Err, Option, Result, sym, refl, ap, ◌∙◌, inl, inr, arith}
use Rattle.std.proofs.lemmas.Bool.{true≢false, le-leb, cases_lt}
use Rattle.names.specs.declared.refusal.Refusal.{Refusal}
use Rattle.names.specs.declared.refusal.Refusal.TheVariants.{NotAName, SourceTooLong, TooManyImports, TooManyUnits, NoSuchUnit, TooManyRows, ImportMissing, ImportCircle, Faulty, StoreFull, RecordTooLong, BufferTooShort, NotBuilt, ImageTooLong, EntryMissing, NotAnImage, NotAnArtifact}
use Rattle.names.specs.Refusals.{number, answer}
use Rattle.store.specs.Says.{get_number}
use Rattle.artifact.specs.Art.{Art, read}
use Rattle.artifact.specs.Round.{RoundTrip}
use Rattle.codec.specs.Format.{got}
use Rattle.ledger.specs.Stored.{artifact_in}

-- a record longer than every artifact is none
pub too_long : RoundTrip → (bs : List ℕ) → 1896 < length bs → read bs ≡ None
too_long round bs h = by (read bs) refl
  where
    by : (o : Option Art) → read bs ≡ o → read bs ≡ None
    by None e = e
    by (Some a) e =
        let is = round.written_read bs a e in
        let small = round.longest a (round.within bs a e) in
        let n = ap length is in
        absurd (omega arith)

-- the numbers of the refusals
pub numbered : (e : Refusal) → 11 ≤ number e
numbered NotAName = omega arith
numbered SourceTooLong = omega arith
numbered TooManyImports = omega arith
numbered TooManyUnits = omega arith
numbered NoSuchUnit = omega arith
numbered TooManyRows = omega arith
numbered (ImportMissing u k) = omega arith
numbered (ImportCircle u) = omega arith
numbered (Faulty u f) = omega arith
numbered (StoreFull u) = omega arith
numbered (RecordTooLong u) = omega arith
numbered BufferTooShort = omega arith
numbered NotBuilt = omega arith
numbered ImageTooLong = omega arith
numbered (EntryMissing u k) = omega arith
numbered NotAnImage = omega arith
numbered NotAnArtifact = omega arith

pub got_none : {E : Type 0} (r : Result (Unit {0}) E) (a : Art) → true ≡ is_err r → got r a ≡ None
got_none (Ok u) a e = absurd (true≢false e)
got_none (Err x) a e = refl

-- a get that was refused
refused_long : RoundTrip → (o : Option (List ℕ)) (e : Refusal) (room : ℕ) → room ≡ 1896 → number e ≡ get_number o room → None ≡ artifact_in o
refused_long round None e room r q = refl
refused_long round (Some bs) e room r q =
    elim (cases_lt room (length bs)) [
      | inl l ↦ sym (too_long round bs (omega arith))
      | inr l ↦ let z : number e ≡ 0 = q ∙ ap (λ b. cond b 0 43) (le-leb (length bs) room l) in let w = numbered e in absurd (omega arith)
    ]

-- whatever it was refused with
pub refused : RoundTrip → (o : Option (List ℕ)) (r : Result (Option ℕ) Refusal) (room : ℕ) → room ≡ 1896 → answer r ≡ get_number o room → is_ok r ≡ false → None ≡ artifact_in o
refused round o (Ok x) room e q f = absurd (true≢false f)
refused round o (Err x) room e q f = refused_long round o x room e q
