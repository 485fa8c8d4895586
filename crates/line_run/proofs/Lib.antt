mod Tries
