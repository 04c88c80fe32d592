use Rattle.std.proofs.Common.{◌≡◌, ℕ, ◌+◌, ◌<◌, ◌≤◌, false, cond, not, ◌&&◌, eqb, leb, List, [], ◌∷◌, ◌++◌, length, vec_len, sym, ap, ◌∙◌, subst, arith}
use Rattle.names.specs.Refusals.{answer}
use Rattle.store.specs.Pairs.{Pair, pair, has, without}
use Rattle.store.specs.Says.{PutSays}
use Rattle.area.specs.Layout.{laid}
use Rattle.log_store.specs.Chain.{with_room, marked, log_put}
use Rattle.log_store.specs.Kept.{records_of, pairs_of}
use Rattle.log_store.proofs.Marks.{same_rows, row-left, put_goes, lay_done}
use Rattle.log_store.proofs.keep.LogStoreStore.put.Goals as goal

pub append-requires : goal.append-requires
append-requires c =
    let s = c.args.self.now in
    let q = c.args.name.bytes in
    let ps = pairs_of s in
    let open_row : (leb s.rows (length ps) && not (has ps q)) ≡ false = sym c.is_full_for.ensures ∙ c.if-is_full_for.false in
    let left = row-left ps q s.rows s.apart s.few open_row in
    let gone = c.end_pair.ensures.pairs in
    let same = c.make_room.ensures.pairs in
    let rows = same_rows s c.make_room.new.self (c.make_room.ensures.len ∙ c.end_pair.ensures.len) in
    record {
      fresh = ap (λ (x : List Pair). has x q) (same ∙ gone) ∙ left.0;
      row = (let e = ap length (same ∙ gone) in let l = left.1 in omega arith);
    }

pub returns : goal.returns
returns c =
    let s = c.args.self.now in
    let q = c.args.name.bytes in
    let bs = c.args.content.now in
    let ps = pairs_of s in
    let whole = vec_len s.area in
    let short : length bs ≤ 1896 = c.if-content-gt-LONGEST.false in
    let open_row : (leb s.rows (length ps) && not (has ps q)) ≡ false = sym c.is_full_for.ensures ∙ c.if-is_full_for.false in
    let left = row-left ps q s.rows s.apart s.few open_row in
    let gone = c.end_pair.ensures.pairs in
    let rows : c.end_pair.new.self.rows ≡ s.rows = same_rows s c.end_pair.new.self c.end_pair.ensures.len in
    let fewer : length (pairs_of c.end_pair.new.self) < c.end_pair.new.self.rows = let e = ap length gone in let l = left.1 in omega arith in
    let done : answer c.append.result ≡ 0 = c.append.ensures.outcome ∙ lay_done (vec_len c.make_room.new.self.area) c.make_room.new.self.end (length bs) short (c.make_room.ensures.room fewer (omega arith)) in
    let after : pairs_of c.append.new.self ≡ without q ps ++ pair q bs ∷ [] =
    c.append.ensures.pairs ∙ ap (λ (m : ℕ). cond (eqb m 0) (pairs_of c.make_room.new.self ++ pair q bs ∷ []) (pairs_of c.make_room.new.self)) done
    ∙ ap (λ (x : List Pair). x ++ pair q bs ∷ []) (c.make_room.ensures.pairs ∙ gone) in
    let room : records_of c.make_room.new.self ≡ with_room whole (11 + length bs) (marked q (records_of s)) = c.make_room.ensures.marks ∙ (λ i. with_room (c.end_pair.ensures.len i) (11 + length bs) (c.end_pair.ensures.marks i)) in
    let lie : records_of c.append.new.self ≡ log_put whole (records_of s) q bs =
    c.append.ensures.marks ∙ ap (λ (m : ℕ). cond (eqb m 0) (records_of c.make_room.new.self ++ laid q bs ∷ []) (records_of c.make_room.new.self)) done
    ∙ ap (λ (x : List (List ℕ)). x ++ laid q bs ∷ []) room in
    record {
      says = subst (λ (m : ℕ). PutSays 1896 s.rows ps (pairs_of c.append.new.self) q bs m) (sym done) (put_goes ps (pairs_of c.append.new.self) q bs s.rows s.apart open_row short after);
      rows = same_rows s c.append.new.self (c.append.ensures.len ∙ c.make_room.ensures.len ∙ c.end_pair.ensures.len);
      lie = lie ∙ sym (ap (λ (m : ℕ). cond (eqb m 0) (log_put whole (records_of s) q bs) (records_of s)) done);
    }
