use Rattle.std.proofs.Common.{◌≡◌, ◌++◌, [], ◌∷◌, refl, ap, ◌∙◌}
use Rattle.wf_files.specs.Folders.{OnFolder, is_out}
use Rattle.wf_files.proofs.Outs.{keeps, takes, out_now, others_out, out_if_taken}
use Rattle.wf_files.proofs.folder.DirShelfDiskShelf.take.Goals as goal

pub returns-in-Ok-clause-taken : goal.returns-in-Ok-clause-taken
returns-in-Ok-clause-taken g c =
    let went : c.try_take.new.self.out ≡ c.args.self.now.out ++ c.args.unit.now ∷ [] = ap (λ (s : OnFolder). s.out) (c.in-Ok.ensures.taken refl) in
    takes c.args.unit.now c.args.self.now c.try_take.new.self c.in-Ok.disk (c.in-Ok.ensures.stood refl)
    (out_now c.args.unit.now c.args.self.now c.try_take.new.self went) c.in-Ok.ensures.sound

pub returns-in-Ok-clause-others : goal.returns-in-Ok-clause-others
returns-in-Ok-clause-others g c name differs =
    let went : c.try_take.new.self.out ≡ c.args.self.now.out ++ c.args.unit.now ∷ [] = ap (λ (s : OnFolder). s.out) (c.in-Ok.ensures.taken refl) in
    keeps name c.args.self.now c.try_take.new.self (others_out c.args.unit.now c.args.self.now c.try_take.new.self name differs went)

pub returns-in-Ok-clause-out : goal.returns-in-Ok-clause-out
returns-in-Ok-clause-out g c taken =
    let is = out_if_taken (is_out c.args.unit.now c.args.self.now) taken in
    let stood = c.in-Ok.ensures.stood refl in
    cc (is, stood)

pub returns-in-Err-Failed-clause-others : goal.returns-in-Err-Failed-clause-others
returns-in-Err-Failed-clause-others g c name differs =
    keeps name c.args.self.now c.count_fault.new.self
    (ap (λ (s : OnFolder). is_out name s) c.count_fault.ensures.next ∙ ap (λ (s : OnFolder). is_out name s) (c.in-Err-Failed.ensures.refused refl))

pub returns-in-Err-Failed-clause-refused : goal.returns-in-Err-Failed-clause-refused
returns-in-Err-Failed-clause-refused g c failed =
    keeps c.args.unit.now c.args.self.now c.count_fault.new.self
    (ap (λ (s : OnFolder). is_out c.args.unit.now s) c.count_fault.ensures.next ∙ ap (λ (s : OnFolder). is_out c.args.unit.now s) (c.in-Err-Failed.ensures.refused refl))

pub returns-in-Err-NoMemory-clause-others : goal.returns-in-Err-NoMemory-clause-others
returns-in-Err-NoMemory-clause-others g c name differs =
    keeps name c.args.self.now c.try_take.new.self (ap (λ (s : OnFolder). is_out name s) (c.in-Err-NoMemory.ensures.refused refl))

pub returns-in-Err-NoMemory-clause-refused : goal.returns-in-Err-NoMemory-clause-refused
returns-in-Err-NoMemory-clause-refused g c failed =
    keeps c.args.unit.now c.args.self.now c.try_take.new.self (ap (λ (s : OnFolder). is_out c.args.unit.now s) (c.in-Err-NoMemory.ensures.refused refl))

pub returns-in-Err-NoMemory-clause-out : goal.returns-in-Err-NoMemory-clause-out
returns-in-Err-NoMemory-clause-out g c taken =
    let told = c.in-Err-NoMemory.ensures.out (out_if_taken (is_out c.args.unit.now c.args.self.now) taken) in
    cc (told, c.in-Err-NoMemory.field-0-is)
