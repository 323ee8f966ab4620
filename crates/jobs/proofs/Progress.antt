-- How far a loop over the records of a file has come.
use Rattle.std.proofs.Common.{◌≡◌, ℕ, ◌+◌, ◌-◌, ◌<◌, ◌≤◌, List, [], ◌∷◌, ◌++◌, length, Some, None, Ok, Err, Option, Result, ap, ◌∙◌, subst, arith, length-append}
use Rattle.jobs.specs.declared.entry.Entry.{Entry}
use Rattle.jobs.specs.declared.fault.Fault.{Fault}
use Rattle.jobs.specs.declared.form.Form.{Form}
use Rattle.jobs.specs.declared.reader.Reader.{Reader}
use Rattle.jobs.specs.declared.record.Record.{Record}
use Rattle.jobs.specs.Entries.{record_of}
use Rattle.jobs.specs.Files.{written, Holds, Faulty, First}
use Rattle.jobs.specs.Reading.{Read, Comes, Next}
use Rattle.jobs.proofs.Faults.{no_fault, one_fault}
use Rattle.jobs.proofs.Turns.{written_push}

-- each record has a byte at least
pub fewer : (es : List Entry) → length es ≤ length (written es)
fewer [] = omega arith
fewer (e ∷ es) = let h = fewer es in simp length-append (omega arith)

-- the reader was at the start, and has handed out records of which P holds
pub record Come (start : Reader) (bytes : List ℕ) (P : List Entry → Type 0) (r : Reader) : Type 0 where
  pub same : r.bytes.now ≡ bytes
  pub read : (f : Form) → Read f [] start → (es : List Entry) × Read f es r × P es

pub first_fault : (f : Form) (bytes : List ℕ) (e : Fault) → Faulty f bytes e.refusal e.offset → First f bytes e
first_fault f bytes e x =
    record { fault = x; bad = no_fault f bytes e.refusal e.offset x; only = λ r o y. one_fault f bytes r e.refusal o e.offset y x }

-- what a reader's turn says of each file that it can be reading
abbrev pub Turn : Reader → Result (Option Record) Fault → Reader → Type 0
Turn r x t = (f : Form) (es : List Entry) → Read f es r → Next f es r x t

module _ (start : Reader) (bytes : List ℕ) (P : List Entry → Type 0) (r t : Reader) (come : Come start bytes P r) where
  -- a record came
  module _ (x : Record) (next : Turn r (Ok (Some x)) t) (f : Form) (at-start : Read f [] start) where
    pub came : Comes f (come.read f at-start).0 r t x
    came = next f (come.read f at-start).0 (come.read f at-start).1

    pub nearer : length t.bytes.now - t.offset < length r.bytes.now - r.offset
    nearer =
        let es = (come.read f at-start).0 in
        let c = came in
        let p = c.read.place in
        let q = (come.read f at-start).1.place in
        let w = t.within in
        let l = ap length (written_push es x.entry) ∙ length-append (written es) (record_of x.entry) in
        let m = ap length c.same in
        omega arith

    pub one_more : (Q : List Entry → Type 0) → ((g : Form) (es : List Entry) → Read g es r → P es → Q (es ++ x.entry ∷ [])) → Come start bytes Q t
    one_more Q more =
        record {
          same = came.same ∙ come.same;
          read = λ g d. ((come.read g d).0 ++ x.entry ∷ [], (next g (come.read g d).0 (come.read g d).1).read, more g (come.read g d).0 (come.read g d).1 (come.read g d).2);
        }

  -- the file ended
  pub came_to_end : Turn r (Ok None) t → (f : Form) → Read f [] start → (es : List Entry) × Holds f bytes es × P es
  came_to_end next f at-start =
      let c = come.read f at-start in
      (c.0, subst (λ bs. Holds f bs c.0) come.same (next f c.0 c.1).1, c.2)

  -- a fault came
  pub came_to_fault : (e : Fault) → Turn r (Err e) t → (f : Form) → Read f [] start → First f bytes e
  came_to_fault e next f at-start =
      let c = come.read f at-start in
      first_fault f bytes e (subst (λ bs. Faulty f bs e.refusal e.offset) come.same (next f c.0 c.1).1)

-- one record more is counted, and the count stays below the offset
pub counted : (es : List Entry) (x : Entry) (n : ℕ) → n ≡ length es → n + 1 ≡ length (es ++ x ∷ [])
counted es x n e = simp length-append (omega arith)

pub count_fits : (f : Form) (es : List Entry) (r : Reader) (n : ℕ) → Read f es r → n ≡ length es → n ≤ r.offset
count_fits f es r n d e = let p = d.place in let q = fewer es in omega arith

-- a turn, by what came
pub some_came : {r t : Reader} {o : Option Record} (x : Record) → o ≡ Some x → Turn r (Ok o) t → Turn r (Ok (Some x)) t
some_came {r} {t} x e turn = subst (λ o. Turn r (Ok o) t) e turn

pub none_came : {r t : Reader} {o : Option Record} → o ≡ None → Turn r (Ok o) t → Turn r (Ok None) t
none_came {r} {t} e turn = subst (λ o. Turn r (Ok o) t) e turn
