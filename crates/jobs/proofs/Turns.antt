-- What one turn of a reader finds, from what it had handed out before.
use Rattle.std.proofs.Common.{◌≡◌, ℕ, ◌+◌, ◌-◌, ◌<◌, ◌≤◌, true, false, List, [], ◌∷◌, ◌++◌, length, get_or, take, drop, sym, ap, ◌∙◌, subst, append_assoc, append-nil, arith, length-append, length-drop}
use Rattle.std.proofs.ByRecursion.{All-push}
use Rattle.std.proofs.lemmas.List.{drop-drop, drop_all, take_rest, take-append-drop, length-take-le}
use Rattle.std.proofs.lemmas.Slice.{first_rest}
use Rattle.jobs.specs.declared.entry.Entry.{Entry}
use Rattle.jobs.specs.declared.fault.Fault.{Fault}
use Rattle.jobs.specs.declared.form.Form.{Form}
use Rattle.jobs.specs.declared.kind.Kind.{Kind}
use Rattle.jobs.specs.declared.reader.Reader.{Reader}
use Rattle.networks.specs.declared.refusal.Refusal.{Refusal}
use Rattle.networks.specs.declared.refusal.Refusal.TheVariants.{CutShort, UnknownKind, OutOfPlace}
use Rattle.jobs.specs.Kinds.{kind_byte, body_length, section_of}
use Rattle.jobs.specs.Entries.{body_of, record_of, Spells}
use Rattle.jobs.specs.Files.{written, longest, Holds, Begun, Wrong, unknown, misplaced, cut, missing, Faulty, after as fault-after}
use Rattle.jobs.specs.Reading.{Due, due_section, complete, after, Read}
use Rattle.jobs.proofs.Places.{may_come, only_due, may_end, not_yet, goes_on, due_after}

-- `&bytes[offset..]`, and what a pattern leaves after its first byte
abbrev pub tail_of : List ℕ → ℕ → List ℕ
tail_of bs o = take (length bs - o) (drop o bs)

abbrev pub rest_of : List ℕ → ℕ → List ℕ
rest_of bs o = take (length (tail_of bs o) - 1) (drop 1 (tail_of bs o))

tail_is : (bs : List ℕ) (o : ℕ) → tail_of bs o ≡ drop o bs
tail_is bs o = take_rest bs o

splits : (bs : List ℕ) (o : ℕ) → o < length bs → drop o bs ≡ get_or (tail_of bs o) 0 0 ∷ rest_of bs o
splits bs o l = sym (tail_is bs o) ∙ first_rest (tail_of bs o) 0 (simp (tail_is, length-drop) (omega arith))

pub written_push : (es : List Entry) (e : Entry) → written (es ++ e ∷ []) ≡ written es ++ record_of e
written_push [] e = append-nil (record_of e)
written_push (x ∷ es) e = ap (λ ys. record_of x ++ ys) (written_push es e) ∙ sym (append_assoc (record_of x) (written es) (record_of e))

-- a fault, by its parts
pub fault_at : {f : Form} {bytes : List ℕ} {w : Refusal} {o : ℕ} (e : Fault) → e ≡ record { refusal = w; offset = o } → Faulty f bytes w o → Faulty f bytes e.refusal e.offset
fault_at {f} {bytes} e is x = subst (λ d. Faulty f bytes d.refusal d.offset) (sym is) x

module _ (f : Form) (es : List Entry) (r : Reader) (rd : Read f es r) (short : length r.bytes.now ≤ longest) where
  begun : (rest : List ℕ) → drop r.offset r.bytes.now ≡ rest → Begun f r.bytes.now es rest
  begun rest e =
      record { short = short; fits = rd.fits; spelled = rd.spelled ∙ ap (λ ys. written es ++ ys) e; lawful = goes_on f r.stage es rd.due }

  at_end : length r.bytes.now ≤ r.offset → drop r.offset r.bytes.now ≡ []
  at_end l = drop_all r.offset r.bytes.now l

  pub ended : length r.bytes.now ≤ r.offset → complete r.stage ≡ true → Holds f r.bytes.now es
  ended l c =
      record {
        short = short;
        fits = rd.fits;
        spelled = rd.spelled ∙ ap (λ ys. written es ++ ys) (at_end l) ∙ append-nil (written es);
        lawful = may_end f r.stage es rd.due c;
      }

  fault_here : {w : Refusal} (rest : List ℕ) → drop r.offset r.bytes.now ≡ rest → Wrong f es rest w → Faulty f r.bytes.now w r.offset
  fault_here {w} rest e x = subst (λ o. Faulty f r.bytes.now w o) (sym rd.place) (fault-after es rest w (begun rest e) x)

  pub ended_early : length r.bytes.now ≤ r.offset → complete r.stage ≡ false → Faulty f r.bytes.now CutShort r.offset
  ended_early l c = fault_here [] (at_end l) (missing (not_yet f r.stage es rd.due c))

  module _ (l : r.offset < length r.bytes.now) where
    pub unknown_here : ((k : Kind) → kind_byte k ≡ get_or (tail_of r.bytes.now r.offset) 0 0 → ⊥) → Faulty f r.bytes.now UnknownKind r.offset
    unknown_here never = fault_here _ (splits r.bytes.now r.offset l) (unknown _ _ never)

    module _ (k : Kind) (told : kind_byte k ≡ get_or (tail_of r.bytes.now r.offset) 0 0) where
      at_kind : drop r.offset r.bytes.now ≡ kind_byte k ∷ rest_of r.bytes.now r.offset
      at_kind = splits r.bytes.now r.offset l ∙ ap (λ b. b ∷ rest_of r.bytes.now r.offset) (sym told)

      pub misplaced_here : (section_of k ≡ due_section r.stage → ⊥) → Faulty f r.bytes.now OutOfPlace r.offset
      misplaced_here never = fault_here _ at_kind (misplaced k _ (λ p. never (only_due f r.stage es k rd.due p)))

      pub cut_here : section_of k ≡ due_section r.stage → length (rest_of r.bytes.now r.offset) < body_length k → Faulty f r.bytes.now CutShort r.offset
      cut_here i m = fault_here _ at_kind (cut k _ (may_come f r.stage es k rd.due i) m)

      -- the bytes from here on begin with the record
      module _ (e : Entry) (n : ℕ) (long : n ≡ body_length k) (m : n ≤ length (rest_of r.bytes.now r.offset))
          (says : Spells k (take n (rest_of r.bytes.now r.offset)) e) where
        body_here : body_of e ≡ take n (rest_of r.bytes.now r.offset)
        body_here = says.numbers

        from_here : drop r.offset r.bytes.now ≡ record_of e ++ drop n (rest_of r.bytes.now r.offset)
        from_here =
            let t = take-append-drop n (rest_of r.bytes.now r.offset) in
            let q = ap kind_byte says.kind in
            let b = body_here in
            at_kind ∙ (cc (t, q, b))

        past_here : drop (r.offset + 1 + n) r.bytes.now ≡ drop n (rest_of r.bytes.now r.offset)
        past_here =
            sym (drop-drop n (r.offset + 1) r.bytes.now) ∙ ap (drop n) (sym (drop-drop 1 r.offset r.bytes.now) ∙ ap (drop 1) at_kind)

        whole : r.bytes.now ≡ written (es ++ e ∷ []) ++ drop (r.offset + 1 + n) r.bytes.now
        whole =
            rd.spelled ∙ ap (λ ys. written es ++ ys) (from_here ∙ ap (λ ys. record_of e ++ ys) (sym past_here))
            ∙ sym (append_assoc (written es) (record_of e) _) ∙ ap (λ ys. ys ++ drop (r.offset + 1 + n) r.bytes.now) (sym (written_push es e))

        pub read_on : (t : Reader) → t.bytes ≡ r.bytes → t.offset ≡ r.offset + 1 + n → t.stage ≡ after r.stage e → section_of k ≡ due_section r.stage → Read f (es ++ e ∷ []) t
        read_on t tb to ts i =
            let len = length-take-le n (rest_of r.bytes.now r.offset) m in
            let b = ap length body_here in
            let at = rd.place in
            record {
              fits = All-push _ es e rd.fits says.fits;
              spelled = (let w = whole in cc (w, tb, to));
              place = to ∙ sym (ap length (written_push es e) ∙ length-append (written es) (record_of e) ∙ omega arith);
              due =
                  subst (λ s. Due f s (es ++ e ∷ [])) (sym ts) (due_after f r.stage es e rd.due (ap section_of says.kind ∙ i));
            }
