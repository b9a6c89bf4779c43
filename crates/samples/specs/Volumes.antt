-- 02, h: texels (R, G, B, A in kind 0) and faults of volume blocks, what the definitions compute and what a decoder written from 000 gives: several
-- partitions with z at 3x3x3 and 4x4x4, two planes, each row of the simplex table, the colours of a solid block, and each fault. Theorem:
-- proofs/Volumes.antt, `volumes_hold`.
-- Assumes nothing.
use Rattle.std.specs.Prelude.{false, List, [], ◌∷◌, map}
use Rattle.interpolation.specs.declared.Kind.TheVariants.{Unorm16}
use Rattle.block_fault.specs.Faults.{fault_of}
use Rattle.texel.specs.BlockTexel.{block_number_at}
use Rattle.samples.specs.Samples.{Sample, sample}

abbrev pub volumes : List Sample
volumes =
    sample (map (block_number_at 14 Unorm16 0xE39639BE7A605A91330698A1C0093492 2 2 2) (0 ∷ 1 ∷ 2 ∷ 3 ∷ [])) (10280 ∷ 10280 ∷ 13364 ∷ 65535 ∷ [])
    ∷ sample (map (block_number_at 14 Unorm16 0xE39639BE7A605A91330698A1C0093492 1 2 1) (0 ∷ 1 ∷ 2 ∷ 3 ∷ [])) (10794 ∷ 10794 ∷ 11822 ∷ 65535 ∷ [])
    ∷ sample (map (block_number_at 14 Unorm16 0xE39639BE7A605A91330698A1C0093492 0 1 2) (0 ∷ 1 ∷ 2 ∷ 3 ∷ [])) (13364 ∷ 13364 ∷ 12336 ∷ 65535 ∷ [])
    ∷ sample (map (block_number_at 17 Unorm16 0xAE7C8F097DDFCBC9F3308CE500EB4E11 3 3 3) (0 ∷ 1 ∷ 2 ∷ 3 ∷ [])) (35358 ∷ 35358 ∷ 37887 ∷ 65535 ∷ [])
    ∷ sample (map (block_number_at 17 Unorm16 0xAE7C8F097DDFCBC9F3308CE500EB4E11 1 2 1) (0 ∷ 1 ∷ 2 ∷ 3 ∷ [])) (36454 ∷ 36454 ∷ 36285 ∷ 65535 ∷ [])
    ∷ sample (map (block_number_at 17 Unorm16 0xAE7C8F097DDFCBC9F3308CE500EB4E11 0 1 2) (0 ∷ 1 ∷ 2 ∷ 3 ∷ [])) (36707 ∷ 36707 ∷ 37381 ∷ 65535 ∷ [])
    ∷ sample (map (block_number_at 19 Unorm16 0xBC0E0865DCE58D7D997F7DF08A1F7883 4 4 3) (0 ∷ 1 ∷ 2 ∷ 3 ∷ [])) (57701 ∷ 57701 ∷ 57701 ∷ 21865 ∷ [])
    ∷ sample (map (block_number_at 19 Unorm16 0xBC0E0865DCE58D7D997F7DF08A1F7883 1 2 1) (0 ∷ 1 ∷ 2 ∷ 3 ∷ [])) (41955 ∷ 41955 ∷ 41955 ∷ 64812 ∷ [])
    ∷ sample (map (block_number_at 19 Unorm16 0xBC0E0865DCE58D7D997F7DF08A1F7883 0 1 2) (0 ∷ 1 ∷ 2 ∷ 3 ∷ [])) (41827 ∷ 41827 ∷ 41827 ∷ 65101 ∷ [])
    ∷ sample (map (block_number_at 23 Unorm16 0xD5BD0132DC685E91F52BC6552A7EC806 5 5 5) (0 ∷ 1 ∷ 2 ∷ 3 ∷ [])) (25905 ∷ 25905 ∷ 25905 ∷ 48428 ∷ [])
    ∷ sample (map (block_number_at 23 Unorm16 0xD5BD0132DC685E91F52BC6552A7EC806 1 2 1) (0 ∷ 1 ∷ 2 ∷ 3 ∷ [])) (27611 ∷ 27611 ∷ 27611 ∷ 49794 ∷ [])
    ∷ sample (map (block_number_at 23 Unorm16 0xD5BD0132DC685E91F52BC6552A7EC806 0 1 2) (0 ∷ 1 ∷ 2 ∷ 3 ∷ [])) (25302 ∷ 25302 ∷ 25302 ∷ 47947 ∷ [])
    ∷ sample (map (block_number_at 20 Unorm16 0x522C95838598853AD554FC05E2958512 4 4 4) (0 ∷ 1 ∷ 2 ∷ 3 ∷ [])) (30583 ∷ 34952 ∷ 6554 ∷ 45875 ∷ [])
    ∷ sample (map (block_number_at 20 Unorm16 0x522C95838598853AD554FC05E2958512 1 2 1) (0 ∷ 1 ∷ 2 ∷ 3 ∷ [])) (35498 ∷ 23483 ∷ 3823 ∷ 51609 ∷ [])
    ∷ sample (map (block_number_at 20 Unorm16 0x522C95838598853AD554FC05E2958512 0 1 2) (0 ∷ 1 ∷ 2 ∷ 3 ∷ [])) (25668 ∷ 46421 ∷ 6554 ∷ 40140 ∷ [])
    ∷ sample (map (block_number_at 16 Unorm16 0x302ECE3FE13CDF92277AFD0B92F54112 3 3 2) (0 ∷ 1 ∷ 2 ∷ 3 ∷ [])) (15420 ∷ 25186 ∷ 16705 ∷ 48573 ∷ [])
    ∷ sample (map (block_number_at 16 Unorm16 0x302ECE3FE13CDF92277AFD0B92F54112 1 2 1) (0 ∷ 1 ∷ 2 ∷ 3 ∷ [])) (21893 ∷ 35940 ∷ 23805 ∷ 30824 ∷ [])
    ∷ sample (map (block_number_at 16 Unorm16 0x302ECE3FE13CDF92277AFD0B92F54112 0 1 2) (0 ∷ 1 ∷ 2 ∷ 3 ∷ [])) (15420 ∷ 25186 ∷ 16705 ∷ 48573 ∷ [])
    -- 000, "ASTC simplex interpolation parameters", row by row: at these places fs, ft, fr are 12, 8, 4; 4, 8, 0; 12, 4, 8; 8, 4, 12; 0, 8, 4; 4, 8, 12
    ∷ sample (map (block_number_at 20 Unorm16 0x522C95838598853AD554FC05E2958512 3 2 1) (0 ∷ 1 ∷ 2 ∷ 3 ∷ [])) (25668 ∷ 46421 ∷ 6007 ∷ 40140 ∷ [])
    ∷ sample (map (block_number_at 20 Unorm16 0x522C95838598853AD554FC05E2958512 1 2 0) (0 ∷ 1 ∷ 2 ∷ 3 ∷ [])) (32221 ∷ 31129 ∷ 4915 ∷ 47786 ∷ [])
    ∷ sample (map (block_number_at 20 Unorm16 0x522C95838598853AD554FC05E2958512 3 3 2) (0 ∷ 1 ∷ 2 ∷ 3 ∷ [])) (28945 ∷ 38775 ∷ 6554 ∷ 43963 ∷ [])
    ∷ sample (map (block_number_at 20 Unorm16 0x522C95838598853AD554FC05E2958512 2 3 3) (0 ∷ 1 ∷ 2 ∷ 3 ∷ [])) (28945 ∷ 38775 ∷ 4915 ∷ 43963 ∷ [])
    ∷ sample (map (block_number_at 20 Unorm16 0x522C95838598853AD554FC05E2958512 0 2 1) (0 ∷ 1 ∷ 2 ∷ 3 ∷ [])) (32221 ∷ 31129 ∷ 3277 ∷ 47786 ∷ [])
    ∷ sample (map (block_number_at 20 Unorm16 0x522C95838598853AD554FC05E2958512 1 2 3) (0 ∷ 1 ∷ 2 ∷ 3 ∷ [])) (25668 ∷ 46421 ∷ 4369 ∷ 40140 ∷ [])
    -- a solid block
    ∷ sample (map (block_number_at 15 Unorm16 0x444433332222123403014080301005FC 3 2 2) (0 ∷ 1 ∷ 2 ∷ 3 ∷ [])) (0x1234 ∷ 0x2222 ∷ 0x3333 ∷ 0x4444 ∷ [])
    -- faults, 0 for none
    ∷ sample (fault_of false 15 0x000000000000123403014080301005FC ∷ []) (0 ∷ [])
    ∷ sample (fault_of false 15 0x000000000000000003018080301005FC ∷ []) (12 ∷ [])
    ∷ sample (fault_of false 23 0xFD6EDC91966A93E170BA90F0E64D52A0 ∷ []) (11 ∷ [])
    ∷ sample (fault_of false 20 0xC46F9C9A70AE8C0166D1EEC97C993BFC ∷ []) (12 ∷ [])
    ∷ sample (fault_of false 22 0x9CEDD8AB77AF3BD4D2B95B817D8C9BFC ∷ []) (13 ∷ [])
    ∷ sample (fault_of false 18 0xA7EAC1C81C4A7F302CF33142833955BC ∷ []) (14 ∷ [])
    ∷ sample (fault_of false 22 0x2BB4754A179D3907D0DDE8E0BF187FEE ∷ []) (15 ∷ [])
    ∷ sample (fault_of false 23 0x57E12D4D9660060AFF0200AEE62EE61C ∷ []) (16 ∷ [])
    ∷ sample (fault_of false 21 0x3FD40DD83D00BDF79EC3FD060DF93E22 ∷ []) (17 ∷ [])
    ∷ sample (fault_of false 20 0x0B3E93E1F5A92F83C3992A9095295835 ∷ []) (18 ∷ [])
    ∷ sample (fault_of false 23 0x86FEBEF847FA799838866458D4287253 ∷ []) (19 ∷ [])
    ∷ sample (fault_of false 22 0xF109E573A3689B02A12400514F9840D3 ∷ []) (20 ∷ [])
    ∷ []
