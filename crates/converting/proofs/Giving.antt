-- What the conversion returns, and what is then in the output: by what the check of the batch says in keyed mode. The
-- premises have the form in which a proof finds them. Assumes nothing.
use Prim.Native.Nat.{ℕ, ◌+◌, ◌≤◌, ◌<◌}
use mathlib.Core.Path.{◌≡◌, refl, sym, ap, ◌∙◌, subst}
use mathlib.Core.Bool.{Bool, true, false}
use mathlib.Core.Logic.{inl, inr}
use mathlib.Core.List.{List, ◌++◌}
use native.Mathlib.Omega.{arith}
use borrow.Author.Tests.{le-leb, lt-leb}
use lib.ListN.{length, take, drop}
use lib.Seq.{length-take-le}
use Rattle.numbers.specs.Bytes.{Bytes}
use Rattle.numbers.specs.Promises.{PutPromise}
use Rattle.primitives.specs.Step.{ok, no}
use Rattle.primitives.proofs.Steps.{ok_not_no, map_ok}
use Rattle.primitives.proofs.Windows.{window_bytes}
use Rattle.records.specs.Judgement.{RecordSpans, records_at}
use Rattle.layout.specs.declared.ControlMode.{ControlMode}
use Rattle.layout.specs.Batch.{Marker, Content, control, records}
use Rattle.opening.specs.declared.BatchFault.{BatchFault}
use Rattle.opening.specs.declared.OpenError.{OpenError}
use Rattle.std.specs.Prelude.{Result, Ok, Err}
use Rattle.opening.specs.Judgement.{Judged, Judgement, more, refused, accepted, Accepted, attributes_in, content_at, bare_marker_at, way_of, judge}
use Rattle.opening.specs.Answers.{batch_number_of}
use Rattle.opening.proofs.Verdicts.{refused_not_accepted, more_not_refused}
use Rattle.opening.proofs.Single.{refusal, refusal_again}
use Rattle.markers.specs.declared.ControlBatchRecord.{ControlBatchRecord}
use Rattle.markers.specs.Markers.{view_marker}
use Rattle.markers.proofs.Bare.{bare_length, bare_sound}
use Rattle.batches.specs.declared.BatchFound.{BatchFound}
use Rattle.batches.specs.Answers as Batches
use Rattle.batches.specs.Promises.{CheckPromise}
use Rattle.batches.specs.Statements.{FormerMarker}
use Rattle.batches.proofs.Again.{none_not_some}
use Rattle.batches.proofs.Numbers.{refusals, ways_within}
use Rattle.batches.proofs.Passed.{passed}
use Rattle.converting.specs.declared.ConvertError.{ConvertError}
use Rattle.converting.specs.Conversion.{Conversion, rekeyed, copied, conversion_of}
use Rattle.converting.specs.Answers.{answer_of, output_of}
use Rattle.converting.specs.Promises.{ConvertOutcome, ConvertPromise}
use Rattle.converting.specs.Giving.{GivenBy}
use Rattle.converting.proofs.Cases.{either}
use Rattle.converting.proofs.Copying.{put_first, rekeyed_length}

-- ---- what is given has room, or has none

module _ (c : Conversion) (out : List ℕ) where
  given_short : length out < length c.given → GivenBy (accepted c) out (record { result = Err ConvertError.ShortOutput; output = out })
  given_short h =
      record { answer = rw (lt-leb (length c.given) (length out) h); output = rw (lt-leb (length c.given) (length out) h) }

  given_done : (output : List ℕ) → length c.given ≤ length out → output ≡ c.given ++ drop (length c.given) out
      → GivenBy (accepted c) out (record { result = Ok (record { taken = c.taken; given = length c.given }); output = output })
  given_done output h e =
      record { answer = rw (le-leb (length c.given) (length out) h); output = e ∙ rw (le-leb (length c.given) (length out) h) }

-- all of a batch's bytes
module _ (s out : List ℕ) where
  abbrev as_it_stands : Conversion
  as_it_stands = record { taken = length s; given = s }

  pub copy_short : length out < length s → GivenBy (accepted as_it_stands) out (record { result = Err ConvertError.ShortOutput; output = out })
  copy_short h = given_short as_it_stands out h

  pub copy_done : (next : ℕ) (output : List ℕ) → length s ≤ length out → PutPromise s out 0 (record { next = next; output = output })
      → GivenBy (accepted as_it_stands) out (record { result = Ok (record { taken = length s; given = length s }); output = output })
  copy_done next output h p = given_done as_it_stands out output h (p.output ∙ put_first s out h)

-- ---- a marker that stands alone

-- what the old rules have read
pub record Bare (s : List ℕ) : Type 0 where
  pub marker : Marker
  pub conversion : conversion_of s ≡ accepted (record { taken = 65; given = rekeyed s marker })
  pub within : 65 ≤ length s
  pub end : ℕ
  pub reads : bare_marker_at (take 65 s) 61 ≡ ok marker end

-- where a marker was read, the control bit was set
marker_read_lem : (w : List ℕ) (is_control : Bool) (n p q : ℕ) (c : Content RecordSpans) (m : Marker)
    → content_at bare_marker_at is_control w n p ≡ ok c q → c ≡ control m → bare_marker_at w p ≡ ok m q
marker_read_lem w true n p q c m e f =
    let (m', i, g) = map_ok control (bare_marker_at w p) e in
    let h : ◌≡◌ {A = Content RecordSpans} (control m') (control m) = g ∙ f in
    let k : m' ≡ m = cc in
    i ∙ ap (λ (y : Marker). ok y q) k
marker_read_lem w false n p q c m e f =
    let (rs, i, g) = map_ok records (records_at w n p) e in
    let h : ◌≡◌ {A = Content RecordSpans} (records rs) (control m) = g ∙ f in
    let z : ◌≡◌ {A = ℕ} 0 1 = cc in
    absurd (omega arith)

pub bare : (s : List ℕ) → Bytes s → judge ControlMode.Keyed s ≡ refused 41 → Bare s
bare s bytes e =
    elim (either s) [
      | inl (x, f, _) ↦ from x f
      | inr (_, never) ↦ absurd (never e)
    ]
  where
    from : (x : FormerMarker s 0 0) → conversion_of s ≡ accepted (record { taken = x.batch.consumed; given = rekeyed s x.marker }) → Bare s
    from x f =
        let y = passed bare_marker_at s 0 0 x.batch x.judged in
        let w : List ℕ = take (0 + (12 + y.size)) s in
        let same : y.content ≡ control x.marker = sym (ap (λ (b : Accepted). b.content) y.is) ∙ x.content in
        let read = marker_read_lem w (attributes_in w 0).control y.read.count (0 + 61) y.read.end y.content x.marker y.read.reads same in
        let (z, ends) = bare_sound w (0 + 61) y.read.end x.marker (window_bytes (0 + (12 + y.size)) s bytes) read in
        let long : length w ≡ 0 + (12 + y.size) = length-take-le (0 + (12 + y.size)) s y.all_there in
        let size : 0 + (12 + y.size) ≡ 65 = omega (arith, z.stands.end, bare_length z.encodes, ends, long) in
        let taken : x.batch.consumed ≡ 65 = ap (λ (b : Accepted). b.consumed) y.is ∙ omega (arith, size) in
        record {
          marker = x.marker;
          conversion = f ∙ ap (λ (n : ℕ). accepted (record { taken = n; given = rekeyed s x.marker })) taken;
          within = omega (arith, size, y.all_there);
          end = y.read.end;
          reads = ap (λ (n : ℕ). bare_marker_at (take n s) 61) (sym size) ∙ read;
        }

module _ (s : List ℕ) (bytes : Bytes s) (e : judge ControlMode.Keyed s ≡ refused 41) where
  pub bare_cut : 65 ≡ length (take 65 s)
  bare_cut = sym (length-take-le 65 s (bare s bytes e).within)

  pub bare_fixed : 61 ≤ length s
  bare_fixed = omega (arith, (bare s bytes e).within)

  module _ (out : List ℕ) where
    abbrev given : Conversion
    given = record { taken = 65; given = rekeyed s (bare s bytes e).marker }

    given_bare : (o : ConvertOutcome) → GivenBy (accepted given) out o → GivenBy (conversion_of s) out o
    given_bare o g = subst (λ (j : Judged Conversion). GivenBy j out o) (sym (bare s bytes e).conversion) g

    long : length (rekeyed s (bare s bytes e).marker) ≡ 72
    long = rekeyed_length s (bare s bytes e).marker bare_fixed

    pub rekey_short : length out < 72 → GivenBy (conversion_of s) out (record { result = Err ConvertError.ShortOutput; output = out })
    rekey_short h = given_bare _ (given_short _ out (omega (arith, long)))

    -- what has been judged is not refused
    pub rekey_never : {n : ℕ} → no n ≡ bare_marker_at (take 65 s) 61 → (o : ConvertOutcome) → GivenBy (conversion_of s) out o
    rekey_never f o = ok_not_no (sym (bare s bytes e).reads ∙ sym f)

    pub rekey_done : (m : ControlBatchRecord) (end : ℕ) → ok (view_marker m) end ≡ bare_marker_at (take 65 s) 61 → 72 ≤ length out
        → (output : List ℕ) → output ≡ rekeyed s (view_marker m) ++ drop 72 out
        → GivenBy (conversion_of s) out (record { result = Ok (record { taken = 65; given = 72 }); output = output })
    rekey_done m end f room output is =
        let b = bare s bytes e in
        let w : ok (view_marker m) end ≡ ok b.marker b.end = f ∙ b.reads in
        let same : view_marker m ≡ b.marker = cc in
        let done = given_done given out output (omega (arith, long)) (is ∙ (λ i. rekeyed s (same i) ++ drop (sym long i) out)) in
        given_bare _
        (subst (λ (n : ℕ). GivenBy (accepted given) out (record { result = Ok (record { taken = 65; given = n }); output = output })) long done)

-- ---- what the check says

-- no refusal has the number 1
number_some : (f : BatchFault) → batch_number_of f ≡ 1 → ⊥
number_some f e =
    let z : ◌≡◌ {A = ℕ} 0 1 = sym (ap (refusal 0 1 (λ (_ : BatchFault). 1)) e) ∙ refusal_again 0 1 (λ (_ : BatchFault). 1) f in
    omega arith

-- one fault alone has the number 41
only_bare : (f : BatchFault) → batch_number_of f ≡ 41 → f ≡ BatchFault.BareMarker
only_bare f e = sym (refusal_again f f (λ g. g) f) ∙ ap (refusal f f (λ g. g)) e

numbered : {a b : Batches.Answer} → a ≡ b → a.number ≡ b.number
numbered e = ap (λ (a : Batches.Answer). a.number) e

module _ (s : List ℕ) (r : Result BatchFound OpenError) (p : CheckPromise ControlMode.Keyed s r) where
  answered : (x : Result BatchFound OpenError) → r ≡ x → Batches.view_check x ≡ Batches.answer_with_room (judge ControlMode.Keyed s)
  answered x e = ap Batches.view_check (sym e) ∙ p.answer

  refused_some : (n : ℕ) → judge ControlMode.Keyed s ≡ refused n → 2 ≤ n
  refused_some n e =
      elim (refusals (way_of ControlMode.Keyed) (ways_within ControlMode.Keyed) s 0 0 n e) [
        | inl (l, h) ↦ l
        | inr f ↦ omega arith
      ]

  accepted_judged : (x : BatchFound) → r ≡ Ok x → (a : Accepted) × (judge ControlMode.Keyed s ≡ accepted a) × (x.consumed ≡ a.consumed)
  accepted_judged x e = by (judge ControlMode.Keyed s) refl (answered _ e)
    where
      by : (j : Judgement) → judge ControlMode.Keyed s ≡ j → Batches.view_found x ≡ Batches.answer_with_room j
          → (a : Accepted) × (judge ControlMode.Keyed s ≡ accepted a) × (x.consumed ≡ a.consumed)
      by (more _) j w = none_not_some (sym (ap (λ (a : Batches.Answer). a.fields) w))
      by (refused _) j w = none_not_some (sym (ap (λ (a : Batches.Answer). a.fields) w))
      by (accepted a) j w = (a, j, ap (λ (a : Batches.Answer). a.bytes) w)

  more_judged : (n : ℕ) → r ≡ Err (OpenError.MoreBytes n) → judge ControlMode.Keyed s ≡ more n
  more_judged n e = by (judge ControlMode.Keyed s) refl (answered _ e)
    where
      by : (j : Judgement) → judge ControlMode.Keyed s ≡ j → Batches.wants n ≡ Batches.answer_with_room j → judge ControlMode.Keyed s ≡ more n
      by (more k) j w = j ∙ ap more (sym (ap (λ (a : Batches.Answer). a.bytes) w))
      by (refused k) j w = absurd (omega (arith, refused_some k j, numbered w))
      by (accepted a) j w = none_not_some (ap (λ (a : Batches.Answer). a.fields) w)

  refused_judged : (f : BatchFault) → r ≡ Err (OpenError.Refused f) → judge ControlMode.Keyed s ≡ refused (batch_number_of f)
  refused_judged f e = by (judge ControlMode.Keyed s) refl (answered _ e)
    where
      by : (j : Judgement) → judge ControlMode.Keyed s ≡ j → Batches.refuses (batch_number_of f) ≡ Batches.answer_with_room j
          → judge ControlMode.Keyed s ≡ refused (batch_number_of f)
      by (more k) j w = absurd (number_some f (numbered w))
      by (refused k) j w = j ∙ ap refused (sym (numbered w))
      by (accepted a) j w = none_not_some (ap (λ (a : Batches.Answer). a.fields) w)

  -- where it is not 41 it is copied
  as_copied : (j : Judgement) → judge ControlMode.Keyed s ≡ j → (j ≡ refused 41 → ⊥) → conversion_of s ≡ copied s j
  as_copied j e not-41 =
      elim (either s) [
        | inl (_, _, f) ↦ absurd (not-41 (sym e ∙ f))
        | inr (f, _) ↦ f ∙ ap (copied s) e
      ]

  module _ (out : List ℕ) where
    promised : (j : Judged Conversion) (o : ConvertOutcome) → conversion_of s ≡ j → GivenBy j out o → ConvertPromise s out o
    promised j o e g =
        record {
          lent = p.lent;
          answer = g.answer ∙ ap (λ (i : Judged Conversion). answer_of i (length out)) (sym e);
          output = g.output ∙ ap (λ (i : Judged Conversion). output_of i out) (sym e);
        }

    pub convert_more : (n : ℕ) → r ≡ Err (OpenError.MoreBytes n) → ConvertPromise s out (record { result = Err (ConvertError.MoreBytes n); output = out })
    convert_more n e =
        promised (more n) _ (as_copied (more n) (more_judged n e) more_not_refused) (record { answer = refl; output = refl })

    pub convert_refused : (f : BatchFault) → r ≡ Err (OpenError.Refused f) → (f ≡ BatchFault.BareMarker → ⊥)
        → ConvertPromise s out (record { result = Err (ConvertError.Refused f); output = out })
    convert_refused f e other =
        promised (refused (batch_number_of f)) _
        (as_copied (refused (batch_number_of f)) (refused_judged f e) (λ w. other (only_bare f (same_refused w))))
        (record { answer = refl; output = refl })
      where
        number_of : Judgement → ℕ
        number_of (more k) = 0
        number_of (refused k) = k
        number_of (accepted a) = 0

        same_refused : {k l : ℕ} → ◌≡◌ {A = Judgement} (refused k) (refused l) → k ≡ l
        same_refused w = ap number_of w

    module _ (x : BatchFound) (e : r ≡ Ok x) where
      abbrev n : ℕ
      n = x.consumed

      pub consumed_within : n ≤ length s
      consumed_within =
          let (a, j, same) = accepted_judged x e in
          let y = passed (way_of ControlMode.Keyed) s 0 0 a j in
          omega (arith, same, ap (λ (b : Accepted). b.consumed) y.is, y.all_there)

      pub convert_copied : (o : ConvertOutcome) → GivenBy (accepted (record { taken = length (take n s); given = take n s })) out o
          → ConvertPromise s out o
      convert_copied o g =
          let (a, j, same) = accepted_judged x e in
          let long = length-take-le n s consumed_within in
          promised (accepted (record { taken = length (take n s); given = take n s })) o
          (as_copied (accepted a) j (λ w. refused_not_accepted (sym w))
          ∙ ap (λ (i : ℕ). accepted (record { taken = i; given = take i s })) (sym same)
          ∙ ap (λ (i : ℕ). accepted (record { taken = i; given = take n s })) (sym long))
          g

  pub to_rekey : r ≡ Err (OpenError.Refused BatchFault.BareMarker) → judge ControlMode.Keyed s ≡ refused 41
  to_rekey e = refused_judged BatchFault.BareMarker e
